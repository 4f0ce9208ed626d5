use Rattle.std.proofs.Common.{◌≡◌, length, take, Ok, fold, []}
use Rattle.report.specs.Numbers.{with_field}
use Rattle.report.specs.Pieces.{fields_of}
use Rattle.report.proofs.fields.numbers_of.Given as goal

abbrev pub invariant-loop-field : goal.invariant-loop-field
invariant-loop-field l =
    (goal.iterator-loop-field).can_next l.field-iterator
    × (goal.iterator-loop-field).is_finite l.field-iterator
    × (fold with_field (Ok []) (take (length l.yielded) (fields_of l.line)) ≡ Ok l.numbers.items)
