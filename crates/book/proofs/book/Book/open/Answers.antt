use Rattle.std.proofs.Common.{sym, ap, ◌∙◌}
use Rattle.book.specs.State.{State}
use Rattle.book.specs.Opening.{Opening, opening_refusal, opening_by}
use Rattle.book.specs.Seen.{seen, told_by}
use Rattle.book.proofs.Decided.{let_pass, turned_down}
use Rattle.book.proofs.Balance.{Openable, openable}
use Rattle.book.proofs.book.Book.open.Goals as goal

pub begin-requires : goal.begin-requires
begin-requires c =
    let b : State = seen c.args.self.now c.args.lines.now c.args.charges.now in
    let o : Opening = told_by c.args.opening in
    let ok : Openable o b = openable o b (let_pass (opening_refusal o b) tt tt c.in_ok-may_open.ensures.value).0 in
    record { classes_few = ok.days_few; resources_few = ok.resources_few; buyers_few = ok.buyers_few; first_day_low = ok.first_day_low }

pub returns-clause-book : goal.returns-clause-book
returns-clause-book c =
    let b : State = seen c.args.self.now c.args.lines.now c.args.charges.now in
    let o : Opening = told_by c.args.opening in
    c.begin.ensures.value ∙ sym (ap (λ p. opening_by p o b) (let_pass (opening_refusal o b) tt tt c.in_ok-may_open.ensures.value).0)

pub returns-in_err-may_open-clause-book : goal.returns-in_err-may_open-clause-book
returns-in_err-may_open-clause-book c =
    let b : State = seen c.args.self.now c.args.lines.now c.args.charges.now in
    let o : Opening = told_by c.args.opening in
    sym (ap (λ p. opening_by p o b) (turned_down (opening_refusal o b) tt _ c.in_err-may_open.ensures.value))
