use Rattle.std.proofs.Common.{set, refl, ap}
use Rattle.book.specs.declared.hour.Step.TheVariants.{Finish}
use Rattle.book.specs.State.{State, place}
use Rattle.book.specs.Calls.{Slip, slip_tests}
use Rattle.book.specs.Calls.Call.{finish}
use Rattle.book.specs.Seen.{seen, named_by}
use Rattle.book.proofs.Stepped.{charged}
use Rattle.book.proofs.book.Book.correct.Goals as goal

pub returns-clause-book : goal.returns-clause-book
returns-clause-book c =
    let b : State = seen c.args.self.now c.args.lines.now c.args.charges.now in
    let slip : Slip = named_by c.args.slip.now in
    let step = c.in_ok-energies.ensures in
    charged (finish slip) b Finish (slip_tests b slip) (place slip.day slip.hour) refl refl (λ _. refl) c.in_ok-h.h.number c.in_ok-h.ensures.value _ _ c.in_ok-energies.energies step.answer (ap (set b.hours c.in_ok-h.h.number) step.hour) c.charge_hour.ensures.value
