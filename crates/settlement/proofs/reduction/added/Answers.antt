use Rattle.std.proofs.Common.{◌≡◌, Ok, arith}
use Rattle.std.proofs.lemmas.Grind.{common_steps}
use Rattle.std.proofs.lemmas.Int.{ints}
use Rattle.std.proofs.lemmas.Result.{IfOk-at_ok}
use Rattle.settlement.proofs.reduction.added.Goals as goal

pub returns-clause-bounded : goal.returns-clause-bounded
returns-clause-bounded g c =
    let is : c.cut_of.result ≡ Ok c.in_ok-cut.cut = grind (arith, common_steps) in
    let bounded = IfOk-at_ok _ is c.cut_of.ensures.bounded in
    ((omega (arith, ints), omega (arith, ints)), omega arith)
