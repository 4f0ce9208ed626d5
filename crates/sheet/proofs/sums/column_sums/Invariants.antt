use Rattle.std.proofs.Common.{◌≡◌, ◌+◌, ◌*◌, ◌^◌, ◌≤◌, get_or, nat_abs}
use Rattle.won.specs.Sums.{total_to}
use Rattle.sheet.specs.Evening.{if_allotted}
use Rattle.sheet.proofs.sums.column_sums.Given as goal

abbrev pub invariant-loop-hour : goal.invariant-loop-hour
invariant-loop-hour g l =
    (l.sums.due ≡ total_to l.hour (λ h. if_allotted l.book.hours h (g.L.Amounts.due (get_or l.rows.lines.now (h * l.rows.width + l.column) g.L.Amounts.empty))))
    × (l.sums.back ≡ total_to l.hour (λ h. if_allotted l.book.hours h (g.L.Amounts.back (get_or l.rows.lines.now (h * l.rows.width + l.column) g.L.Amounts.empty))))
    × (nat_abs l.sums.due ≤ l.hour * 2 ^ 63) × (nat_abs l.sums.back ≤ l.hour * 2 ^ 63)
