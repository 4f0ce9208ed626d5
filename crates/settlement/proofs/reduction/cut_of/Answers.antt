use Rattle.std.proofs.Common.{◌≡◌, Some, ◌≤◌, ◌<◌, arith}
use Rattle.std.proofs.lemmas.Bool.Decides.{nat_tests}
use Rattle.std.proofs.lemmas.Int.{ints}
use Rattle.std.proofs.lemmas.Option.{MatchOption-at_some}
use Rattle.settlement.proofs.reduction.cut_of.Goals as goal

pub returns-clause-bounded : goal.returns-clause-bounded
returns-clause-bounded g c =
    let is : c.metered.result ≡ Some c.in_ok-load.load = grind arith in
    let load : c.in_ok-load.load ≤ 20000000 = MatchOption-at_some _ _ _ is c.metered.ensures.bounded in
    let baseline = c.in_ok-baseline.ensures.bounded in
    let outside = c.in_ok-baseline.ensures.outside in
    let known : c.args.asked.customer < 16 = grind (arith, nat_tests) in
    ((omega (arith, ints), omega (arith, ints)), known)
