use Rattle.std.proofs.Common.{◌≡◌, true, false, refl, sym, ◌∙◌, ap, Err, arith}
use Rattle.std.proofs.lemmas.Bool.Decides.{nat_tests}
use Rattle.std.proofs.lemmas.Int.{ints}
use Rattle.std.proofs.lemmas.Result.{err_from_is_err_and}
use Rattle.settlement.specs.Reduction.{reduction}
use Rattle.settlement.specs.Settle.{none, mandatory_reduction}
use Rattle.settlement.proofs.Reductions.{reduction_adds, reduction_ends}
use Rattle.settlement.proofs.terms.ResourceHour.mandatory_reduction.Goals as goal

pub returns-in_err-sum : goal.returns-in_err-sum
returns-in_err-sum g c =
    let m = g.S.BaselineSource.meaning c.args.source.now in
    let h = c.args.self.now in
    let p = err_from_is_err_and c.from_residual.result c.from_residual.ensures.1 in
    let some : none h.terms.order ≡ false = grind (arith, nat_tests) in
    let asks : mandatory_reduction m h.portfolio h.slot h.terms ≡ reduction m (λ _. true) h.slot.day h.slot.hour h.portfolio.customers = rw some in
    let ends = reduction_ends m (λ _. true) _ _ c.loop-customer.customer h.portfolio.customers _ _ (omega arith) refl c.loop-customer.invariant.1 c.in_err-sum.ensures.value in
    record { value = p.1 ∙ ap Err p.2 ∙ sym (asks ∙ ends) }

pub loop-customer-preserved : goal.loop-customer-preserved
loop-customer-preserved g c =
    let m = g.S.BaselineSource.meaning c.args.source.now in
    let within = c.in_ok-sum.ensures.bounded in
    (omega arith, reduction_adds m (λ _. true) _ _ _ _ _ _ refl c.loop-customer.invariant.1 c.in_ok-sum.ensures.value (omega (arith, ints)), (omega (arith, ints), omega (arith, ints)))
