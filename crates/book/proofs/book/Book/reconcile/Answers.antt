use Rattle.std.proofs.Common.{◌≡◌, true, false, Ok, Err, Result, sym, ap, ◌∙◌, subst}
use Rattle.std.proofs.lemmas.Bool.{cond-true, cond-false}
use Rattle.refusal.specs.declared.Refusal.{Refusal}
use Rattle.refusal.specs.declared.Refusal.TheVariants.{ShortLists}
use Rattle.book.specs.declared.reconcile.Reconciliation.{Reconciliation}
use Rattle.book.specs.State.{State, hours_of, short_for}
use Rattle.book.specs.Reconciled.{sums_to, reconciled, Lawful}
use Rattle.book.specs.Seen.{seen}
use Rattle.book.proofs.Balance.{lawful}
use Rattle.book.proofs.book.Book.reconcile.Goals as goal

pub returns-then-lacks_places : goal.returns-then-lacks_places
returns-then-lacks_places c =
    let b : State = seen c.args.self.now c.args.lines.now c.args.charges.now in
    let short : short_for b.register b.lines b.charges ≡ true = sym c.if-lacks_places.ensures.value in
    let answer : ◌≡◌ {A = Result Reconciliation Refusal} (Err ShortLists) (reconciled b) = sym (cond-true (short_for b.register b.lines b.charges) (Err ShortLists) (Ok (sums_to b (hours_of b.register))) short) in
    record { answer = answer; law = subst (Lawful b) (sym answer) (lawful b) }

pub returns : goal.returns
returns c =
    let b : State = seen c.args.self.now c.args.lines.now c.args.charges.now in
    let long : short_for b.register b.lines b.charges ≡ false = sym c.if-lacks_places.ensures.value in
    let answer : ◌≡◌ {A = Result Reconciliation Refusal} (Ok c.month_sums.result) (reconciled b) =
    ap Ok c.month_sums.ensures.value ∙ sym (cond-false (short_for b.register b.lines b.charges) (Err ShortLists) (Ok (sums_to b (hours_of b.register))) long) in
    record { answer = answer; law = subst (Lawful b) (sym answer) (lawful b) }
