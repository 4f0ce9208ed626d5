-- Sums of the month added.
use Rattle.std.proofs.Common.{◌≡◌, ◌^◌, ◌≤◌, ℤ, pos, negsuc, ◌+ℤ◌, nat_abs, sym, ◌∙◌, subst, ap₂, arith, SFits, to_z, of_z}
use mir.Syntax.{w128}
use Rattle.std.proofs.lemmas.Int.{ints, to_z-of_z}

-- two sums of 128 bits added, as the code has it

wide_fits : (z : ℤ) → nat_abs z ≤ 2 ^ 101 → SFits w128 z
wide_fits (pos n) w = record { sfits = omega arith }
wide_fits (negsuc n) w = record { sfits = omega arith }

module _ (a b : ℤ) (u : nat_abs a ≤ 2 ^ 100) (v : nat_abs b ≤ 2 ^ 100) where
  both : nat_abs (a +ℤ b) ≤ 2 ^ 101
  both = omega (arith, ints)

  same : to_z w128 (of_z w128 a) +ℤ to_z w128 (of_z w128 b) ≡ a +ℤ b
  same = ap₂ ◌+ℤ◌ (to_z-of_z w128 a (wide_fits a (omega arith))) (to_z-of_z w128 b (wide_fits b (omega arith)))

  plus_fits : SFits w128 (to_z w128 (of_z w128 a) +ℤ to_z w128 (of_z w128 b))
  plus_fits = subst (SFits w128) (sym same) (wide_fits (a +ℤ b) both)

  pub plus_is : to_z w128 (of_z w128 (to_z w128 (of_z w128 a) +ℤ to_z w128 (of_z w128 b))) ≡ a +ℤ b
  plus_is = to_z-of_z w128 _ plus_fits ∙ same
