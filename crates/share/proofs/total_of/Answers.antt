use Rattle.std.proofs.Common.{◌≡◌, ◌-◌, ◌^◌, sum, arith, rules}
use Rattle.std.proofs.lemmas.List.{get_or_default}
use Rattle.std.proofs.lemmas.List.Sums.{sum_by-le}
use Rattle.share.proofs.total_of.Goals as goal

pub returns-clause-bounded : goal.returns-clause-bounded
returns-clause-bounded c =
    let value : c.sum.result ≡ sum c.args.weights.now = search rules in
    let within = sum_by-le (λ x. x) (2 ^ 32 - 1) c.args.weights.now (λ k d l. let f = c.type_inv.weights k in let e = get_or_default c.args.weights.now k 0 d l in omega arith) in
    omega arith
