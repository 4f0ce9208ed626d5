use Rattle.std.proofs.Common.{set, refl, ap}
use Rattle.book.specs.declared.hour.Step.TheVariants.{Allot}
use Rattle.book.specs.State.{State, place}
use Rattle.book.specs.Calls.{place_tests}
use Rattle.book.specs.Calls.Call.{allot}
use Rattle.book.specs.Seen.{seen}
use Rattle.book.proofs.Stepped.{charged}
use Rattle.book.proofs.book.Book.allot.Goals as goal

pub returns-clause-book : goal.returns-clause-book
returns-clause-book c =
    let b : State = seen c.args.self.now c.args.lines.now c.args.charges.now in
    let day = c.args.at.day in
    let hour = c.args.at.hour in
    let step = c.in_ok-energies.ensures in
    charged (allot day hour) b Allot (place_tests b day hour) (place day hour) refl refl (λ _. refl) c.in_ok-h.h.number c.in_ok-h.ensures.value _ _ c.in_ok-energies.energies step.answer (ap (set b.hours c.in_ok-h.h.number) step.hour) c.charge_hour.ensures.value
