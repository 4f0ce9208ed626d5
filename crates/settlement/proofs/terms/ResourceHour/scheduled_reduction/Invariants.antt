use Rattle.std.proofs.Common.{◌≡◌, ◌*◌, min, Ok}
use Rattle.settlement.specs.Bounds.{Within}
use Rattle.settlement.specs.Reduction.{reduction, takes_part}
use Rattle.settlement.proofs.terms.ResourceHour.scheduled_reduction.Given as goal

abbrev pub invariant-loop-place : goal.invariant-loop-place
invariant-loop-place g l =
    (reduction (g.S.BaselineSource.meaning l.source) (takes_part l.fn.marks) l.self.slot.day l.self.slot.hour l.place ≡ Ok l.sum)
    × Within (60000000 * min l.place 16) l.sum
