-- What becomes of the slips that are out.
use Rattle.std.specs.Prelude.{◌≡◌, None}
use Rattle.book.specs.State.{State}
use Rattle.book.specs.Calls.{Slip, refusal}
use Rattle.book.specs.Calls.Call.{finish}

-- the slip can be finished with
abbrev pub Finishes : State → Slip → Type 0
Finishes b slip = refusal (finish slip) b ≡ None

-- a slip that could be finished with still can
abbrev pub Keeps : State → State → Type 0
Keeps b c = (slip : Slip) → Finishes b slip → Finishes c slip
