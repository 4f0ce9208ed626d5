-- Bounds of the month's sums.
use Rattle.std.specs.Prelude.{ℕ, ◌≤◌, unsigned_abs}
use Rattle.book.specs.declared.reconcile.Reconciliation.{Reconciliation}

-- each of the four sums is at most n won from nought
pub record AllWithin (n : ℕ) (r : Reconciliation) : Type 0 where
  pub payments : unsigned_abs r.payments ≤ n
  pub fines : unsigned_abs r.fines ≤ n
  pub charges : unsigned_abs r.charges ≤ n
  pub refunds : unsigned_abs r.refunds ≤ n
