-- What a baseline source answers.
use Rattle.std.specs.Prelude.{ℕ, ℤ, pos, negsuc, ◌≤ℤ◌, Option, Result}
use Rattle.refusal.specs.declared.Cause.{Cause}

-- the metered load by customer, day and hour; the mean in hour g over the days chosen for hour h; the baseline; all in Wh
pub record SourceMeaning : Type 0 where
  pub metered : ℕ → ℕ → ℕ → Option ℕ
  pub profile : ℕ → ℕ → ℕ → ℕ → Result ℕ Cause
  pub baseline : ℕ → ℕ → ℕ → Result ℤ Cause

-- the least and the greatest baseline, -40,000,000 and 40,000,000 Wh
abbrev pub lowest : ℤ
lowest = negsuc 39999999

abbrev pub highest : ℤ
highest = pos 40000000

abbrev pub WithinBounds : ℤ → Type 0
WithinBounds z = (lowest ≤ℤ z) × (z ≤ℤ highest)
