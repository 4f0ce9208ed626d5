use Rattle.std.proofs.Common.{[], ◌∷◌, sym, subst}
use Rattle.book.specs.State.{State}
use Rattle.book.specs.Calls.{Settling, Slip}
use Rattle.book.specs.Seen.{seen, named_by}
use Rattle.book.specs.Slips.{Finishes}
use Rattle.book.proofs.Finishing.{finishes_allotted, finishes_told, finishes_settled, finishes_withdrawn}
use Rattle.book_cases.proofs.corrections.correct.Goals as goal

pub finish-requires : goal.finish-requires
finish-requires g c =
    let reopened : State = seen c.reopen.new.self c.args.lines.now c.reopen.new.charges in
    let untimely : State = seen c.allot-untimely.new.self c.args.lines.now c.allot-untimely.new.charges in
    let told : State = seen c.tell-told.new.self c.args.lines.now c.allot-untimely.new.charges in
    let settled : State = seen c.tell-told.new.self c.settle-settled.new.lines c.allot-untimely.new.charges in
    let withdrawn : State = seen c.tell-told.new.self c.withdraw-withdrawn.new.lines c.allot-untimely.new.charges in
    let slip : Slip = named_by c.in_ok-slip.slip in
    let q : Settling = record { resource = 0; day = c.args.at.day; hour = c.args.at.hour; terms = c.args.terms; marks = 1 ∷ []; scheduled = g.S.BaselineSource.meaning c.args.source.now; mandatory = g.S.BaselineSource.meaning c.args.source.now } in
    let good : State → Type 0 = λ b. Finishes b slip in
    let none : good untimely = subst good (sym c.allot-untimely.ensures.book) (finishes_allotted reopened slip c.in_ok-slip.ensures.finishes c.args.at.day c.args.at.hour) in
    let one : good told = subst good (sym c.tell-told.ensures.book) (finishes_told untimely slip none c.args.at.day c.args.at.hour 10 (4 ∷ 6 ∷ [])) in
    let two : good settled = subst good (sym c.settle-settled.ensures.book) (finishes_settled told slip one q) in
    let three : good withdrawn = subst good (sym c.withdraw-withdrawn.ensures.book) (finishes_withdrawn settled slip two 0 c.args.at.day c.args.at.hour) in
    subst good (sym c.settle-again.ensures.book) (finishes_settled withdrawn slip three q)
