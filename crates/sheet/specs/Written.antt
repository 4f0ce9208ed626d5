-- What writing a text into a buffer answers, and what the buffer then holds.
use Rattle.std.specs.Prelude.{ℕ, List, [], ◌∷◌, ◌++◌, length, drop, Some, None, Option, Result, nat_lt}
use Rattle.refusal.specs.declared.Refusal.{Refusal}
use Rattle.refusal.specs.declared.Refusal.TheVariants.{ShortBuffer}
use Rattle.refusal.specs.Tests.{refused_if, first_of}
use Rattle.book.specs.State.{State}
use Rattle.book.specs.Calls.{measured}
use Rattle.book.specs.Seen.{granted_or}
use Rattle.sheet.specs.Evening.{sheet_text}

-- the buffer is shorter than the text
abbrev pub short_buffer : List ℕ → List ℕ → Option Refusal
short_buffer text buffer = refused_if (nat_lt (length buffer) (length text)) ShortBuffer

-- a text that is not refused, and then what stood beyond it
abbrev pub written_by : Option Refusal → List ℕ → List ℕ → List ℕ
written_by None text buffer = text ++ drop (length text) buffer
written_by (Some refusal) text buffer = buffer

-- the lists are measured first, then the buffer
abbrev pub sheet_refusal : State → List ℕ → Option Refusal
sheet_refusal b buffer = first_of (measured b ∷ short_buffer (sheet_text b) buffer ∷ [])

-- writing a sheet answers its length
abbrev pub sheet_answer : State → List ℕ → Result ℕ Refusal
sheet_answer b buffer = granted_or (sheet_refusal b buffer) (length (sheet_text b))

-- every byte of the buffer after
abbrev pub sheet_written : State → List ℕ → List ℕ
sheet_written b buffer = written_by (sheet_refusal b buffer) (sheet_text b) buffer
