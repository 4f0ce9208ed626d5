use Rattle.std.proofs.Common.{◌≡◌, ℕ, ◌<◌, ◌≤◌, Bool}
use Rattle.book.specs.State.{hours_of}
use Rattle.sheet.specs.Evening.{count_to}
use Rattle.sheet.proofs.sums.hours_that.Given as goal

abbrev pub invariant-loop-hour : goal.invariant-loop-hour
invariant-loop-hour g l =
    (l.count ≤ l.hour)
    × ((holds : ℕ → Bool) → ((hour : ℕ) (r : Bool) → hour < hours_of l.book.register → goal.T-post g l.test hour r → r ≡ holds hour) → l.count ≡ count_to l.hour holds)
