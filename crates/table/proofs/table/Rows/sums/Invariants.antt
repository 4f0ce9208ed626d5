use Rattle.std.proofs.Common.{◌≡◌, ◌+◌, ◌*◌, ◌^◌, ◌≤◌, get_or, nat_abs}
use Rattle.won.specs.Sums.{total_to}
use Rattle.table.proofs.table.Rows.sums.Given as goal

abbrev pub invariant-loop-column : goal.invariant-loop-column
invariant-loop-column g l =
    (l.sums.due ≡ total_to l.column (λ k. g.L.Amounts.due (get_or l.self.lines.now (l.hour * l.self.width + k) g.L.Amounts.empty)))
    × (l.sums.back ≡ total_to l.column (λ k. g.L.Amounts.back (get_or l.self.lines.now (l.hour * l.self.width + k) g.L.Amounts.empty)))
    × (nat_abs l.sums.due ≤ l.column * 2 ^ 63) × (nat_abs l.sums.back ≤ l.column * 2 ^ 63)
    × (nat_abs l.sums.due ≤ l.column * g.L.Amounts.most) × (nat_abs l.sums.back ≤ l.column * g.L.Amounts.most)
