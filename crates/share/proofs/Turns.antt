-- One turn of the loop that shares an amount, and its end.
use Rattle.std.proofs.Common.{◌≡◌, ℕ, ◌+◌, ◌<◌, ◌≤◌, ◌≢◌, List, length, get_or, set, replicate, ℤ, pos, ◌-ℤ◌, ◌*ℤ◌, ◌≤ℤ◌, sum, sym, refl, ◌∙◌, ⊎_elim, zero-le, arith, length-set, get_or-set_other, w64, SFits, to_z, of_z}
use mir.Syntax.{w128}
use Rattle.std.proofs.lemmas.List.Edits.{fill_by_more}
use Rattle.std.proofs.lemmas.List.{get_or_past, get_or-replicate}
use Rattle.std.proofs.lemmas.Int.{ints, clamps}
use Rattle.std.proofs.lemmas.List.Sums.{sum_by-take-le}
use Rattle.std.proofs.lemmas.Bool.{cases_lt}
use Rattle.std.specs.Int.{int_div_euclid, int_min, int_max}
use Rattle.share.specs.Shares.{weight_before, share}
use Rattle.share.proofs.Weights.{weight_more, weight_within}
use Rattle.share.proofs.Sharing.{no_weight, share_within}

-- the weight with one place more is at most the total
pub weight_turn : (ws : List ℕ) (k u t : ℕ) → u ≡ weight_before ws k → t ≡ sum ws → (u + get_or ws k 0 ≡ weight_before ws (k + 1)) × (u + get_or ws k 0 ≤ t)
weight_turn ws k u t e f = let m = weight_more ws k in let w = sum_by-take-le (λ x. x) ws (k + 1) in (omega arith, omega arith)

-- the share as the code has it, by the weights before the place and up to it
pub share_from : (a : ℤ) (ws : List ℕ) (k b u t : ℕ) → b ≡ weight_before ws k → u ≡ weight_before ws (k + 1) → t ≡ sum ws → int_div_euclid (a *ℤ pos u) (pos t) -ℤ int_div_euclid (a *ℤ pos b) (pos t) ≡ share a ws k
share_from a ws k b u t e f g = rw (e, f, g) refl

between_fits : (a s : ℤ) → SFits w64 a → (int_min a (pos 0) ≤ℤ s) × (s ≤ℤ int_max a (pos 0)) → SFits w64 s
between_fits a s f h = omega (arith, ints, clamps)

pub share_fits : (a : ℤ) (ws : List ℕ) (k : ℕ) → SFits w64 a → SFits w64 (share a ws k)
share_fits a ws k f = between_fits a (share a ws k) f (share_within a ws k)

-- the places before k have their shares, the rest have 0
abbrev pub SharedUpto : ℤ → List ℕ → ℕ → List ℤ → Type 0
SharedUpto a ws k xs = (length xs ≡ 16) × ((j : ℕ) → j < k → get_or xs j (pos 0) ≡ share a ws j) × ((j : ℕ) → k ≤ j → get_or xs j (pos 0) ≡ pos 0)

pub shared_none : (a : ℤ) (ws : List ℕ) → SharedUpto a ws 0 (replicate 16 (pos 0))
shared_none a ws = (refl, (λ j h. absurd (omega arith)), (λ j h. ⊎_elim (get_or-replicate 16 j (pos 0) (pos 0)) (get_or_past (replicate 16 (pos 0)) j (pos 0)) (cases_lt j 16)))

pub shared_more : (a v : ℤ) (ws : List ℕ) (k : ℕ) (xs : List ℤ) → k < length ws → length ws ≤ 16 → v ≡ share a ws k → SharedUpto a ws k xs → SharedUpto a ws (k + 1) (set xs k v)
shared_more a v ws k xs h m e s =
    let l : k < length xs = omega (arith, s.0) in
    rw e (simp length-set s.0, fill_by_more (share a ws) xs k (pos 0) l s.1, λ j g. let ne : j ≢ k = omega arith in rw get_or-set_other (s.2 j (omega arith)))

-- all places have their shares
pub each_share : (a : ℤ) (ws : List ℕ) (k : ℕ) (xs : List ℤ) → length ws ≤ k → SharedUpto a ws k xs → (j : ℕ) → get_or xs j (pos 0) ≡ share a ws j
each_share a ws k xs h s j = ⊎_elim (s.1 j) (λ p. s.2 j p ∙ sym (no_weight a ws j (get_or_past ws j 0 (omega arith)))) (cases_lt j k)

-- where all weights are 0
pub each_nothing : (a : ℤ) (ws : List ℕ) (xs : List ℤ) → sum ws ≡ 0 → SharedUpto a ws 0 xs → (j : ℕ) → get_or xs j (pos 0) ≡ share a ws j
each_nothing a ws xs z s j = s.2 j zero-le ∙ sym (no_weight a ws j (let w = weight_within ws j in omega arith))

passed_fits : (r s : ℤ) → r ≡ s → SFits w64 s → SFits w64 (to_z w128 (of_z w128 r))
passed_fits r s e f = omega (arith, ints)

passed_is : (r s : ℤ) → r ≡ s → SFits w64 s → to_z w64 (of_z w64 (to_z w128 (of_z w128 r))) ≡ s
passed_is r s e f = omega (arith, ints)

-- what a turn writes fits, and is the share
pub written_fits : (a r : ℤ) (ws : List ℕ) (k : ℕ) → SFits w64 a → r ≡ share a ws k → SFits w64 (to_z w128 (of_z w128 r))
written_fits a r ws k f e = passed_fits r (share a ws k) e (share_fits a ws k f)

pub written_is : (a r : ℤ) (ws : List ℕ) (k : ℕ) → SFits w64 a → r ≡ share a ws k → to_z w64 (of_z w64 (to_z w128 (of_z w128 r))) ≡ share a ws k
written_is a r ws k f e = passed_is r (share a ws k) e (share_fits a ws k f)
