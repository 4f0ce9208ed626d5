-- One text after another on a tape.
use Rattle.std.proofs.Common.{◌≡◌, ℕ, List, ◌++◌, length, append_assoc, length-append}
use Rattle.std.proofs.lemmas.List.{drop-drop}
use Rattle.sheet.specs.Tape.{Tape, after}

pub after_more : (t u v : Tape) (a b : List ℕ) → u ≡ after t a → v ≡ after u b → v ≡ after t (a ++ b)
after_more t u v a b p q = rw (q, p, append_assoc t.past a b, drop-drop (length b) (length a) t.ahead, length-append a b)
