use Rattle.std.proofs.Common.{[], ◌∷◌, Err, sym, ap, ◌∙◌}
use Rattle.std.proofs.lemmas.Result.{err_from_is_err_and}
use Rattle.book.specs.State.{State}
use Rattle.book.specs.Calls.{Settling, line_tests, failure, reckon, state_by}
use Rattle.book.specs.Calls.Call.{settle}
use Rattle.book.specs.Seen.{seen, asked_by, granted_or}
use Rattle.book.proofs.Decided.{turned_down}
use Rattle.book.proofs.Refused.{first_kept}
use Rattle.book.proofs.book.Book.settle.Goals as goal

pub returns-in_err-h : goal.returns-in_err-h
returns-in_err-h g c =
    let b : State = seen c.args.self.now c.args.lines.now c.args.charges.now in
    let q : Settling = asked_by g.S.BaselineSource.meaning g.M.BaselineSource.meaning c.args.settling.now in
    let p = err_from_is_err_and c.from_residual.result c.from_residual.ensures.1 in
    let e = first_kept (line_tests b q.resource q.day q.hour) (failure (reckon b.register q) ∷ []) c.in_err-h.field-0.0 (turned_down _ _ _ c.in_err-h.ensures.value) in
    record { answer = p.1 ∙ ap (λ r. Err r) p.2 ∙ sym (ap (λ o. granted_or o tt) e); book = sym (ap (λ o. state_by o (settle q) b) e) }
