-- Equal methods.
use Rattle.std.proofs.Common.{◌≡◌, ℕ, ◌+◌, ◌<◌, ◌≤◌, ap, ◌∙◌}
use native.Mathlib.Bridge.{le_prop}
use Rattle.load.specs.declared.loads.DayClass.{DayClass}
use Rattle.baseline.specs.declared.method.Method.{Method}

module _ (class : DayClass) (n high low reach : ℕ) where
  abbrev row : n ≤ 10 → high + low < n → Method
  row few kept = record { class = class; n = n; high = high; low = low; reach = reach; few = few; kept = kept }

  -- methods of equal terms are equal
  pub same_row : (few few' : n ≤ 10) (kept kept' : high + low < n) → row few kept ≡ row few' kept'
  same_row few few' kept kept' = ap (λ (h : n ≤ 10). row h kept) (le_prop few few') ∙ ap (λ (h : high + low < n). row few' h) (le_prop kept kept')
