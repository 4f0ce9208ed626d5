use Rattle.std.proofs.Common.{◌≡◌, ◌-◌, ◌≤◌, ◌++◌, length}
use Rattle.baseline.specs.Reference.{reference_days}
use Rattle.baseline.proofs.Search.{ahead}
use Rattle.baseline.proofs.ranked.Ranked.reference_days.Given as goal

abbrev pub invariant-search : goal.invariant-search
invariant-search g l =
    let m = g.R.LoadRecord.meaning l.self.loads in
    let k = l.self.method in
    record {
      few : length l.days.items ≤ k.n;
      found : l.days.items ++ ahead m k.class l.asked.customer l.asked.hour (k.n - length l.days.items) l.left l.past ≡ reference_days m k l.asked.customer l.asked.day l.asked.hour;
    }
