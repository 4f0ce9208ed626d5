-- The laws of sharing, over the list of sixteen shares.
use Rattle.std.proofs.Common.{◌≡◌, ℕ, ◌<◌, ◌≤◌, false, ltb, List, length, get_or, ℤ, pos, nat_abs, IfSome, Some, Option, sym, ap, ◌∙◌, subst, ⊎_elim, arith}
use Rattle.std.proofs.lemmas.List.FromFn.{fill_by_all, get_or-map-range_with_len, length-map-range_with_len}
use Rattle.std.proofs.lemmas.List.{get_or_past}
use Rattle.std.proofs.lemmas.Int.{ints, clamps}
use Rattle.std.proofs.lemmas.Bool.{cases_lt, le-ltb}
use Rattle.won.proofs.Sums.{total_same}
use Rattle.share.specs.Shares.{share, shares, shared}
use Rattle.share.specs.Laws.{EachShare, AddUp, WithinAWon, Near, WeightlessNone, BetweenNoughtAnd, WithinAmount, NoFurther}
use Rattle.share.proofs.Weights.{weight_all}
use Rattle.share.proofs.Sharing.{shares_add_up, share_near, no_weight, share_within}

-- up to sixteen weights are shared out
pub shared_some : (a : ℤ) (ws : List ℕ) → length ws ≤ 16 → shared a ws ≡ Some (shares a ws 16)
shared_some a ws m = let t : ltb 16 (length ws) ≡ false = le-ltb 16 (length ws) m in rw t

-- the share that stands at a place of the list, 0 past it
pub share_at : (a : ℤ) (ws : List ℕ) (n k : ℕ) → length ws ≤ n → get_or (shares a ws n) k (pos 0) ≡ share a ws k
share_at a ws n k m = ⊎_elim within past (cases_lt k n)
  where
    within : k < n → get_or (shares a ws n) k (pos 0) ≡ share a ws k
    within h = get_or-map-range_with_len (share a ws) 0 n k k (pos 0) h (omega arith)

    past : n ≤ k → get_or (shares a ws n) k (pos 0) ≡ share a ws k
    past h =
        let l = length-map-range_with_len (share a ws) 0 n in
        get_or_past (shares a ws n) k (pos 0) (omega arith) ∙ sym (no_weight a ws k (get_or_past ws k 0 (omega arith)))

no_further : (a s : ℤ) → BetweenNoughtAnd a s → nat_abs s ≤ nat_abs a
no_further a s h = omega (arith, ints, clamps)

-- sixteen numbers that are the shares are what sharing answers, and keep its laws
pub record SharedOut (a : ℤ) (ws : List ℕ) (xs : List ℤ) : Type 0 where
  pub value : Some xs ≡ shared a ws
  pub each : EachShare a ws xs
  pub adds : AddUp a ws xs
  pub near : Near a ws xs
  pub none : WeightlessNone ws xs
  pub within : WithinAmount a xs
  pub bounded : NoFurther a xs

pub shared_out : (a : ℤ) (ws : List ℕ) (xs : List ℤ) → length ws ≤ 16 → length xs ≡ 16 → EachShare a ws xs → SharedOut a ws xs
shared_out a ws xs m l e = record {
  value = ap Some (fill_by_all (share a ws) xs 16 (pos 0) l (λ k _. e k)) ∙ sym (shared_some a ws m);
  each = e;
  adds = λ p. total_same 16 _ _ (λ k _. e k) ∙ shares_add_up a ws 16 p (weight_all ws 16 m);
  near = λ p k. subst (WithinAWon a ws k) (sym (e k)) (share_near a ws k p);
  none = λ k z. e k ∙ no_weight a ws k z;
  within = λ k. between k;
  bounded = λ k. no_further a (get_or xs k (pos 0)) (between k);
}
  where
    between : (k : ℕ) → BetweenNoughtAnd a (get_or xs k (pos 0))
    between k = subst (BetweenNoughtAnd a) (sym (e k)) (share_within a ws k)

-- for a caller: what a clause of sharing says of the amount b as it was passed holds of the amount a and the shares xs
pub taken : (P : ℤ → List ℤ → Type 0) (a b : ℤ) (o : Option (List ℤ)) (xs : List ℤ) → b ≡ a → o ≡ Some xs → IfSome o (P b) → P a xs
taken P a b o xs e f h = subst (λ z. P z xs) e (subst (λ y. IfSome y (P b)) f h)
