use Rattle.std.proofs.Common.{◌≡◌, ◌*◌, ◌≤◌, drop, Some}
use Rattle.baseline.specs.Profile.{plus, total_load}
use Rattle.baseline.proofs.ranked.Ranked.mean_over.Given as goal

abbrev pub invariant-loop-x : goal.invariant-loop-x
invariant-loop-x g l =
    let m = g.R.LoadRecord.meaning l.self.loads in
    record {
      given : l.x-items ≡ l.days.items;
      bounded : l.sum ≤ 20000000 * l.x-index;
      total : plus (Some l.sum) (total_load m l.asked.customer l.asked.hour (drop l.x-index l.days.items)) ≡ total_load m l.asked.customer l.asked.hour l.days.items;
    }
