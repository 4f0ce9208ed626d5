use Rattle.std.proofs.Common.{◌≡◌, ◌*◌, ◌≤◌, true, Ok}
use Rattle.settlement.specs.Bounds.{Within}
use Rattle.settlement.specs.Reduction.{reduction}
use Rattle.settlement.proofs.terms.ResourceHour.mandatory_reduction.Given as goal

abbrev pub invariant-loop-customer : goal.invariant-loop-customer
invariant-loop-customer g l =
    (l.customer ≤ 16)
    × (reduction (g.S.BaselineSource.meaning l.source) (λ _. true) l.self.slot.day l.self.slot.hour l.customer ≡ Ok l.sum)
    × Within (60000000 * l.customer) l.sum
