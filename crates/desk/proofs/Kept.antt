-- What a call leaves to a slip that is out.
use Rattle.std.proofs.Common.{◌≡◌, sym, subst}
use Rattle.book.specs.State.{State}
use Rattle.book.specs.Calls.{Slip}
use Rattle.book.specs.Slips.{Finishes}

-- a slip with which the state after a call can be finished can finish what the call left
pub kept : {left after : State} (slip : Slip) → left ≡ after → Finishes after slip → Finishes left slip
kept slip e finishes = subst (λ s. Finishes s slip) (sym e) finishes
