-- Sums of signed amounts of won.
use Rattle.std.specs.Prelude.{ℕ, zero, suc, ℤ, pos, ◌+ℤ◌}

-- f 0 + f 1 + .. + f (n - 1)
abbrev pub total_to : ℕ → (ℕ → ℤ) → ℤ
total_to zero f = pos 0
total_to (suc n) f = total_to n f +ℤ f n
