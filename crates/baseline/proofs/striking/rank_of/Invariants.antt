use Rattle.std.proofs.Common.{◌≡◌, take, count_by}
use Rattle.baseline.specs.Striking.{lower_load}
use Rattle.baseline.proofs.striking.rank_of.Given as goal

abbrev pub invariant-loop-x : goal.invariant-loop-x
invariant-loop-x l = l.lower_ones ≡ count_by (λ other. lower_load other l.this) (take l.x-index l.days)
