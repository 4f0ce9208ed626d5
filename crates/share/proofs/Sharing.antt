-- The laws of sharing, over the definitions.
use Rattle.std.proofs.Common.{◌≡◌, ℕ, zero, suc, ◌+◌, ◌<◌, ◌≤◌, List, get_or, ℤ, pos, negsuc, ◌+ℤ◌, ◌-ℤ◌, ◌*ℤ◌, ◌≤ℤ◌, ◌<ℤ◌, sum, sym, ap, ◌∙◌, ⊎_elim, zero-le, eq-zero-or-pos, mul-le-mul_left, add-one, arith}
use native.Mathlib.Nat.{zero-div}
use lib.IntN.{+ℤ_idr, *ℤ-zero}
use Rattle.std.proofs.lemmas.Int.{ints, clamps}
use Rattle.std.specs.Int.{int_div_euclid, int_min, int_max}
use Rattle.won.specs.Sums.{total_to}
use Rattle.won.proofs.Floors.{mul_add, sub_mul, floor_low, floor_high, floor_grows, floor_shift, floor_whole}
use Rattle.share.specs.Shares.{weight_before, part, share}
use Rattle.share.specs.Laws.{WithinAWon, BetweenNoughtAnd}
use Rattle.share.proofs.Weights.{weight_more, weight_below, weight_within}

-- the weight before a place, as an integer
abbrev reach : List ℕ → ℕ → ℤ
reach ws k = pos (weight_before ws k)

reach_more : (ws : List ℕ) (k : ℕ) → reach ws (k + 1) ≡ reach ws k +ℤ pos (get_or ws k 0)
reach_more ws k = ap pos (weight_more ws k)

-- what falls on a stretch of weight w that begins at x
abbrev stretch : ℤ → ℤ → ℕ → ℕ → ℤ
stretch a x w t = int_div_euclid (a *ℤ (x +ℤ pos w)) (pos t) -ℤ int_div_euclid (a *ℤ x) (pos t)

share_is : (a : ℤ) (ws : List ℕ) (k : ℕ) → share a ws k ≡ stretch a (reach ws k) (get_or ws k 0) (sum ws)
share_is a ws k = ap (λ z. int_div_euclid (a *ℤ z) (pos (sum ws)) -ℤ part a ws k) (reach_more ws k)

-- the same over plain numbers: b and c are quotients times t, y and z their dividends
off : (s b c y z v t : ℤ) → s ≡ b -ℤ c → y ≡ z +ℤ v → b ≤ℤ y → y <ℤ (b +ℤ t) → c ≤ℤ z → z <ℤ (c +ℤ t) → (s <ℤ (v +ℤ t)) × (v <ℤ (s +ℤ t))
off s b c y z v t e f h i j k = (omega (arith, ints), omega (arith, ints))

near : (a x : ℤ) (w t : ℕ) → 0 < t → ((stretch a x w t *ℤ pos t) <ℤ (a *ℤ pos w +ℤ pos t)) × ((a *ℤ pos w) <ℤ (stretch a x w t *ℤ pos t +ℤ pos t))
near a x w t p =
    off _ _ _ _ _ _ (pos t) (sub_mul (int_div_euclid (a *ℤ (x +ℤ pos w)) (pos t)) (int_div_euclid (a *ℤ x) (pos t)) (pos t)) (mul_add a x (pos w))
    (floor_low (a *ℤ (x +ℤ pos w)) t p) (floor_high (a *ℤ (x +ℤ pos w)) t p) (floor_low (a *ℤ x) t p) (floor_high (a *ℤ x) t p)

-- a share is less than one won from amount × weight ÷ total
pub share_near : (a : ℤ) (ws : List ℕ) (k : ℕ) → 0 < sum ws → WithinAWon a ws k (share a ws k)
share_near a ws k p = rw (share_is a ws k) (near a (reach ws k) (get_or ws k 0) (sum ws) p)

-- no weight, no share
pub no_weight : (a : ℤ) (ws : List ℕ) (k : ℕ) → get_or ws k 0 ≡ 0 → share a ws k ≡ pos 0
no_weight a ws k e =
    let r : reach ws (k + 1) ≡ reach ws k = let m = reach_more ws k in omega (arith, ints) in
    let f : part a ws (k + 1) ≡ part a ws k = ap (λ z. int_div_euclid (a *ℤ z) (pos (sum ws))) r in
    omega (arith, ints)

-- all weight together brings the amount
whole : (a x : ℤ) (t : ℕ) → 0 < t → int_div_euclid (a *ℤ (x +ℤ pos t)) (pos t) ≡ int_div_euclid (a *ℤ x) (pos t) +ℤ a
whole a x t p = ap (λ z. int_div_euclid z (pos t)) (mul_add a x (pos t)) ∙ floor_shift (a *ℤ x) a t p

one_more : (s p q : ℤ) → s ≡ p → s +ℤ (q -ℤ p) ≡ q
one_more s p q e = omega (arith, ints)

-- the shares of the first n places come to the part that falls on them
pub total_shares : (a : ℤ) (ws : List ℕ) (n : ℕ) → total_to n (share a ws) ≡ part a ws n
total_shares a ws zero = sym (ap (λ z. int_div_euclid z (pos (sum ws))) (*ℤ-zero a) ∙ ap pos (zero-div (sum ws)))
total_shares a ws (suc n) = one_more (total_to n (share a ws)) (part a ws n) (part a ws (n + 1)) (total_shares a ws n) ∙ ap (part a ws) (add-one n)

-- the shares of n places that hold all weight add up to the amount
pub shares_add_up : (a : ℤ) (ws : List ℕ) (n : ℕ) → 0 < sum ws → weight_before ws n ≡ sum ws → total_to n (share a ws) ≡ a
shares_add_up a ws n p h = total_shares a ws n ∙ (ap (λ w. int_div_euclid (a *ℤ pos w) (pos (sum ws))) h ∙ floor_whole a (sum ws) p)

-- no weight stands at n and behind it
pub shares_below_add_up : (a : ℤ) (ws : List ℕ) (n : ℕ) → 0 < sum ws → ((k : ℕ) → n ≤ k → get_or ws k 0 ≡ 0) → total_to n (share a ws) ≡ a
shares_below_add_up a ws n p h = shares_add_up a ws n p (weight_below ws n h)

-- what falls on the weight up to x + u
abbrev upto : ℤ → ℤ → ℕ → ℕ → ℤ
upto a x t u = int_div_euclid (a *ℤ (x +ℤ pos u)) (pos t)

beside : (y b c : ℤ) → b ≤ℤ c → (y +ℤ b) ≤ℤ (y +ℤ c)
beside y b c h = omega (arith, ints)

upto_grows : (a x : ℤ) (t u v : ℕ) → 0 < t → (a *ℤ pos u) ≤ℤ (a *ℤ pos v) → upto a x t u ≤ℤ upto a x t v
upto_grows a x t u v p h = floor_grows _ _ t p (rw (mul_add a x (pos u), mul_add a x (pos v)) (beside (a *ℤ x) _ _ h))

rises : (n u v : ℕ) → u ≤ v → (pos n *ℤ pos u) ≤ℤ (pos n *ℤ pos v)
rises n u v h = let m = mul-le-mul_left n h in omega (arith, ints)

falls : (n u v : ℕ) → u ≤ v → (negsuc n *ℤ pos v) ≤ℤ (negsuc n *ℤ pos u)
falls n u v h = let m = mul-le-mul_left (suc n) h in omega (arith, ints)

between_up : (a f g h z : ℤ) → pos 0 ≤ℤ a → f ≤ℤ g → g ≤ℤ h → h ≡ z +ℤ a → f ≡ z → (int_min a (pos 0) ≤ℤ (g -ℤ z)) × ((g -ℤ z) ≤ℤ int_max a (pos 0))
between_up a f g h z s p q e d = (omega (arith, ints, clamps), omega (arith, ints, clamps))

between_down : (a f g h z : ℤ) → a ≤ℤ pos 0 → g ≤ℤ f → h ≤ℤ g → h ≡ z +ℤ a → f ≡ z → (int_min a (pos 0) ≤ℤ (g -ℤ z)) × ((g -ℤ z) ≤ℤ int_max a (pos 0))
between_down a f g h z s p q e d = (omega (arith, ints, clamps), omega (arith, ints, clamps))

-- a stretch of at most the whole weight takes between nought and the amount
within : (a x : ℤ) (w t : ℕ) → 0 < t → w ≤ t → (int_min a (pos 0) ≤ℤ stretch a x w t) × (stretch a x w t ≤ℤ int_max a (pos 0))
within (pos n) x w t p h =
    between_up (pos n) _ _ _ _ (omega (arith, ints)) (upto_grows (pos n) x t 0 w p (rises n 0 w zero-le)) (upto_grows (pos n) x t w t p (rises n w t h))
    (whole (pos n) x t p) (ap (λ z. int_div_euclid (pos n *ℤ z) (pos t)) (+ℤ_idr x))
within (negsuc n) x w t p h =
    between_down (negsuc n) _ _ _ _ (omega (arith, ints)) (upto_grows (negsuc n) x t w 0 p (falls n 0 w zero-le)) (upto_grows (negsuc n) x t t w p (falls n w t h))
    (whole (negsuc n) x t p) (ap (λ z. int_div_euclid (negsuc n *ℤ z) (pos t)) (+ℤ_idr x))

nought_within : (a s : ℤ) → s ≡ pos 0 → (int_min a (pos 0) ≤ℤ s) × (s ≤ℤ int_max a (pos 0))
nought_within a s e = (omega (arith, ints, clamps), omega (arith, ints, clamps))

-- a share lies between nought and the amount
pub share_within : (a : ℤ) (ws : List ℕ) (k : ℕ) → BetweenNoughtAnd a (share a ws k)
share_within a ws k = ⊎_elim empty some (eq-zero-or-pos (sum ws))
  where
    empty : sum ws ≡ 0 → BetweenNoughtAnd a (share a ws k)
    empty e = nought_within a _ (no_weight a ws k (let h = weight_within ws k in omega arith))

    some : 0 < sum ws → BetweenNoughtAnd a (share a ws k)
    some p = rw (share_is a ws k) (within a (reach ws k) (get_or ws k 0) (sum ws) p (weight_within ws k))
