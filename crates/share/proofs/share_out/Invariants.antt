use Rattle.std.proofs.Common.{◌≡◌}
use Rattle.share.specs.Shares.{weight_before}
use Rattle.share.proofs.Turns.{SharedUpto}
use Rattle.share.proofs.share_out.Given as goal

abbrev pub invariant-loop-k : goal.invariant-loop-k
invariant-loop-k l = (l.before ≡ weight_before l.weights l.k) × SharedUpto l.amount l.weights l.k l.shares
