-- What a sink of bytes stands at.
use Rattle.std.specs.Prelude.{ℕ, ◌≤◌, List, ◌++◌, length, take, drop}

-- the bytes put so far, one for each call; the bytes at the places to come; the memory that is written
pub record Tape : Type 0 where
  pub past : List ℕ
  pub ahead : List ℕ
  pub memory : ℕ

-- there are places for a text
abbrev pub HasRoom : Tape → List ℕ → Type 0
HasRoom t text = length text ≤ length t.ahead

-- the tape after a text was put
abbrev pub after : Tape → List ℕ → Tape
after t text = record { past = t.past ++ text; ahead = drop (length text) t.ahead; memory = t.memory }

-- the tape of a buffer of which the first bytes are written
abbrev pub page_tape : List ℕ → ℕ → ℕ → Tape
page_tape buffer next memory = record { past = take next buffer; ahead = drop next buffer; memory = memory }
