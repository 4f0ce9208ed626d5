use Rattle.std.proofs.Common.{◌≡◌, length, drop, Ok}
use Rattle.report.specs.Asked.{lines_read}
use Rattle.report.specs.Pieces.{lines_of}
use Rattle.report.proofs.request.Request.read_lines.Given as goal

abbrev pub invariant-loop-k : goal.invariant-loop-k
invariant-loop-k l =
    (l.lines ≡ length l.yielded)
    × (lines_read (length l.yielded) (Ok l.self) (drop (length l.yielded) (lines_of l.text)) ≡ lines_read 0 (Ok l.initial.self) (lines_of l.text))
