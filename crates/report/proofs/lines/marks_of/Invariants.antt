use Rattle.std.proofs.Common.{◌≡◌, length, drop, replicate}
use Rattle.report.specs.Lines.{marks_written}
use Rattle.report.proofs.lines.marks_of.Given as goal

abbrev pub invariant-loop-k : goal.invariant-loop-k
invariant-loop-k l =
    (length l.marks ≡ 16)
    × (marks_written l.k (drop l.k l.numbers) l.marks ≡ marks_written 0 l.numbers (replicate 16 0))
