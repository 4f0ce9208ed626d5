use Rattle.std.proofs.Common.{◌≡◌, ◌*◌, ◌^◌}
use Rattle.book.specs.Bounds.{AllWithin}
use Rattle.book.specs.Reconciled.{sums_to}
use Rattle.book.specs.Seen.{seen}
use Rattle.book.proofs.book.Book.month_sums.Given as goal

abbrev pub invariant-loop-h : goal.invariant-loop-h
invariant-loop-h l = (l.sums ≡ sums_to (seen l.self l.lines l.charges) l.h) × AllWithin (l.h * 2 ^ 66) l.sums
