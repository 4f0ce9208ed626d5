-- The book of a desk, and what every call on a desk leaves to the slips that are out.
use Rattle.std.specs.Prelude.{◌≢◌, ℕ}
use Rattle.book.specs.State.{State, place}
use Rattle.book.specs.Calls.{Slip}
use Rattle.book.specs.Seen.{seen}
use Rattle.book.specs.Slips.{Finishes}
use Rattle.desk.specs.declared.Desk.{Desk}

-- the book of a desk with its two lists
abbrev pub on_desk : {l c : ℕ} → Desk l c → State
on_desk d = seen d.book d.lines d.charges

-- two slips are for different hours
abbrev pub Apart : Slip → Slip → Type 0
Apart s t = place s.day s.hour ≢ place t.day t.hour

-- every slip that could be finished with is for another hour than this one
abbrev pub New : State → Slip → Type 0
New b slip = (s : Slip) → Finishes b s → Apart s slip

-- a slip for another hour that could be finished with still can
abbrev pub KeepsOthers : State → Slip → State → Type 0
KeepsOthers b slip c = (s : Slip) → Finishes b s → Apart s slip → Finishes c s
