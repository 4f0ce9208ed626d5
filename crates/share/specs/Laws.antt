-- What the shares xs of an amount by the weights ws keep.
use Rattle.std.specs.Prelude.{◌≡◌, ℕ, ◌<◌, ◌≤◌, List, ℤ, pos, ◌+ℤ◌, ◌*ℤ◌, ◌≤ℤ◌, ◌<ℤ◌, sum, slice_index, slice_index_or, unsigned_abs}
use Rattle.std.specs.Int.{int_min, int_max}
use Rattle.won.specs.Sums.{total_to}
use Rattle.share.specs.Shares.{share}

-- each place has its share
abbrev pub EachShare : ℤ → List ℕ → List ℤ → Type 0
EachShare amount ws xs = (k : ℕ) → slice_index_or xs k (pos 0) ≡ share amount ws k

-- the sixteen shares add up to the amount, if any weight is above 0
abbrev pub AddUp : ℤ → List ℕ → List ℤ → Type 0
AddUp amount ws xs = 0 < sum ws → total_to 16 (λ k. slice_index_or xs k (pos 0)) ≡ amount

-- a share is less than one won from amount × weight ÷ total, told in whole numbers
abbrev pub WithinAWon : ℤ → List ℕ → ℕ → ℤ → Type 0
WithinAWon amount ws k won =
    ((won *ℤ pos (sum ws)) <ℤ (amount *ℤ pos (slice_index ws k) +ℤ pos (sum ws)))
    × ((amount *ℤ pos (slice_index ws k)) <ℤ (won *ℤ pos (sum ws) +ℤ pos (sum ws)))

-- so is each share, if any weight is above 0
abbrev pub Near : ℤ → List ℕ → List ℤ → Type 0
Near amount ws xs = 0 < sum ws → (k : ℕ) → WithinAWon amount ws k (slice_index_or xs k (pos 0))

-- no weight, no share
abbrev pub WeightlessNone : List ℕ → List ℤ → Type 0
WeightlessNone ws xs = (k : ℕ) → slice_index ws k ≡ 0 → slice_index_or xs k (pos 0) ≡ pos 0

-- a number lies between nought and the amount
abbrev pub BetweenNoughtAnd : ℤ → ℤ → Type 0
BetweenNoughtAnd amount won = (int_min amount (pos 0) ≤ℤ won) × (won ≤ℤ int_max amount (pos 0))

-- so does each share
abbrev pub WithinAmount : ℤ → List ℤ → Type 0
WithinAmount amount xs = (k : ℕ) → BetweenNoughtAnd amount (slice_index_or xs k (pos 0))

-- and none is further from nought than the amount
abbrev pub NoFurther : ℤ → List ℤ → Type 0
NoFurther amount xs = (k : ℕ) → unsigned_abs (slice_index_or xs k (pos 0)) ≤ unsigned_abs amount
