use Rattle.std.proofs.Common.{ℕ, ◌+◌, List, length, set, replicate, ap, arith}
use Rattle.report.specs.declared.hour.Purchases.{Purchases}
use Rattle.report.proofs.Writing.{copied}
use Rattle.report.proofs.lines.purchased.Goals as goal

-- the others' purchases are copied behind the retailer's
pub returns : goal.returns
returns c =
    let others : List ℕ = c.args.others.now in
    let made : List ℕ → Purchases = λ b. record { bought = b; buyers = length others + 1 } in
    record { value = ap made (copied 1 _ others c.copy_from_slice.new.self (set (replicate 8 0) 0 c.args.rest) c.copy_from_slice.ensures.after (omega arith) (omega arith)) }
