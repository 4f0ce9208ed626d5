use Rattle.std.proofs.Common.{◌≡◌, ◌≤◌, length, take, filter}
use Rattle.baseline.specs.Striking.{stays}
use Rattle.baseline.proofs.method.Method.left_of.Given as goal

abbrev pub invariant-loop-x : goal.invariant-loop-x
invariant-loop-x l = record {
  given : l.x-items ≡ l.days.items;
  few : length l.left.items ≤ l.x-index;
  so_far : l.left.items ≡ filter (stays l.self.low l.self.high l.days.items) (take l.x-index l.days.items);
}
