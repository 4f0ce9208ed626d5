use Rattle.std.proofs.Common.{◌≡◌, length, take, Ok, fold}
use Rattle.report.specs.Lines.{with_day}
use Rattle.report.proofs.lines.days_marked.Given as goal

abbrev pub invariant-loop-day : goal.invariant-loop-day
invariant-loop-day l =
    (length l.table ≡ 96)
    × (fold (with_day l.byte) (Ok l.initial.table) (take l.day-index l.days) ≡ Ok l.table)
