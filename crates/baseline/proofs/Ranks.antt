-- Ranks among records: how many records are left once some are struck.
use Rattle.std.proofs.Common.{◌≡◌, ℕ, zero, suc, ◌+◌, ◌-◌, ◌<◌, ◌≤◌, Bool, true, false, ◌&&◌, ltb, leb, List, [], ◌∷◌, length, get_or, count_by, sym, ap, ◌∙◌, inl, inr, arith}
use Rattle.std.specs.List.{AllByRecursion}
use Rattle.std.proofs.ByRecursion.{All-get_or, All-from_get_or}
use Rattle.std.proofs.lemmas.Bool.{cases_Bool, cases_lt, lt-ltb, le-ltb}
use Rattle.std.proofs.lemmas.Bool.Decides.{nat_tests}
use Rattle.std.proofs.lemmas.List.Sums.{count_by-le-length, length-filter, sum_by-cons}
use Rattle.baseline.proofs.Orders.{TotalOrder, rank_by, foremost, stays_by, unstruck_by, Apart}
use Rattle.baseline.proofs.Counts.{one, count_same, count_le, count_lt, count_split}

ltb_suc : (a b : ℕ) → ltb (suc a) (suc b) ≡ ltb a b
ltb_suc a b = elim (cases_lt a b) [ inl h ↦ lt-ltb (suc a) (suc b) (omega arith) ∙ sym (lt-ltb a b h) | inr h ↦ le-ltb (suc a) (suc b) (omega arith) ∙ sym (le-ltb a b h) ]

module _ {X : Type 0} (lower : X → X → Bool) (o : TotalOrder lower) where
  rank_le : (xs : List X) (y x : X) → lower y x ≡ true → rank_by lower xs y ≤ rank_by lower xs x
  rank_le xs y x h = count_le (λ z. lower z y) (λ z. lower z x) (λ z e. o.transitive z y x e h) xs

  rank_lt : (xs : List X) (i : ℕ) (y : X) → i < length xs → lower (get_or xs i y) y ≡ true → rank_by lower xs (get_or xs i y) < rank_by lower xs y
  rank_lt xs i y within h =
      let x = get_or xs i y in
      count_lt (λ z. lower z x) (λ z. lower z y) (λ z e. o.transitive z x y e h) xs i y within (o.irreflexive x) h

  above : (x y : X) → (y ≡ x → ⊥) → lower y x ≡ false → lower x y ≡ true
  above x y no' e = elim (cases_Bool (lower x y)) [ inl t ↦ t | inr f ↦ absurd (no' (o.connected y x e f)) ]

  rank_cons : (y : X) (ys : List X) (x : X) → rank_by lower (y ∷ ys) x ≡ one (lower y x) + rank_by lower ys x
  rank_cons y ys x = sum_by-cons (λ z. one (lower z x)) y ys

  -- y comes after the k foremost
  same_under : (y : X) (ys : List X) (k : ℕ) → k ≤ rank_by lower ys y → (x : X) → foremost lower (y ∷ ys) k x ≡ foremost lower ys k x
  same_under y ys k h x = elim (cases_Bool (lower y x)) [
    | inl t ↦
        let e : one (lower y x) ≡ 1 = ap one t in
        let r = rank_cons y ys x in
        let l = rank_le ys y x t in
        le-ltb _ _ (omega arith) ∙ sym (le-ltb _ _ (omega arith))
    | inr f ↦
        let e : one (lower y x) ≡ 0 = ap one f in
        let r = rank_cons y ys x in
        let s : rank_by lower (y ∷ ys) x ≡ rank_by lower ys x = omega arith in
        ap (λ n. ltb n k) s
  ]

  -- y is one of the k + 1 foremost
  same_over : (y : X) (ys : List X) (k : ℕ) → rank_by lower ys y ≤ k → (i : ℕ) → i < length ys → (y ≡ get_or ys i y → ⊥) → foremost lower (y ∷ ys) (suc k) (get_or ys i y) ≡ foremost lower ys k (get_or ys i y)
  same_over y ys k h i within no' = let x = get_or ys i y in elim (cases_Bool (lower y x)) [
    | inl t ↦
        let e : one (lower y x) ≡ 1 = ap one t in
        let r = rank_cons y ys x in
        let s : rank_by lower (y ∷ ys) x ≡ suc (rank_by lower ys x) = omega arith in
        ap (λ n. ltb n (suc k)) s ∙ ltb_suc (rank_by lower ys x) k
    | inr f ↦
        let e : one (lower y x) ≡ 0 = ap one f in
        let r = rank_cons y ys x in
        let l = rank_lt ys i y within (above x y no' f) in
        lt-ltb _ _ (omega arith) ∙ sym (lt-ltb _ _ (omega arith))
  ]

  own_rank : (y : X) (ys : List X) → rank_by lower (y ∷ ys) y ≡ rank_by lower ys y
  own_rank y ys =
      let e : one (lower y y) ≡ 0 = ap one (o.irreflexive y) in
      omega (arith, e, rank_cons y ys y)

  late : (y : X) (ys : List X) → ((k : ℕ) → k ≤ length ys → count_by (foremost lower ys k) ys ≡ k) → (k : ℕ) → k ≤ rank_by lower ys y → count_by (foremost lower (y ∷ ys) k) (y ∷ ys) ≡ k
  late y ys inner k h =
      let own : one (foremost lower (y ∷ ys) k y) ≡ 0 = ap one (le-ltb (rank_by lower (y ∷ ys) y) k (omega (arith, own_rank y ys))) in
      let short = count_by-le-length (λ z. lower z y) ys in
      let others = count_same (foremost lower (y ∷ ys) k) (foremost lower ys k) ys (All-from_get_or (λ x. foremost lower (y ∷ ys) k x ≡ foremost lower ys k x) ys y (λ i _. same_under y ys k h (get_or ys i y))) in
      let rest : count_by (foremost lower ys k) ys ≡ k = inner k (omega arith) in
      sum_by-cons (λ z. one (foremost lower (y ∷ ys) k z)) y ys ∙ omega (arith, own, others, rest)

  early : (y : X) (ys : List X) → AllByRecursion (λ x. y ≡ x → ⊥) ys → ((k : ℕ) → k ≤ length ys → count_by (foremost lower ys k) ys ≡ k) → (k : ℕ) → k ≤ length ys → rank_by lower ys y ≤ k → count_by (foremost lower (y ∷ ys) (suc k)) (y ∷ ys) ≡ suc k
  early y ys apart inner k within h =
      let own : one (foremost lower (y ∷ ys) (suc k) y) ≡ 1 = ap one (lt-ltb (rank_by lower (y ∷ ys) y) (suc k) (omega (arith, own_rank y ys))) in
      let others = count_same (foremost lower (y ∷ ys) (suc k)) (foremost lower ys k) ys
      (All-from_get_or (λ x. foremost lower (y ∷ ys) (suc k) x ≡ foremost lower ys k x) ys y (λ i l. same_over y ys k h i l (All-get_or (λ x. y ≡ x → ⊥) ys i y l apart))) in
      let rest = inner k within in
      sum_by-cons (λ z. one (foremost lower (y ∷ ys) (suc k) z)) y ys ∙ omega (arith, own, others, rest)

  -- of records that are all apart, just k are the k foremost
  pub count_foremost : (xs : List X) → Apart xs → (k : ℕ) → k ≤ length xs → count_by (foremost lower xs k) xs ≡ k
  count_foremost [] _ k h = omega arith
  count_foremost (y ∷ ys) (apart, rest) zero h = late y ys (count_foremost ys rest) zero (omega arith)
  count_foremost (y ∷ ys) (apart, rest) (suc k) h = elim (cases_lt (rank_by lower ys y) (suc k)) [
    | inr l ↦ late y ys (count_foremost ys rest) (suc k) l
    | inl e ↦ early y ys apart (count_foremost ys rest) k (omega arith) (omega arith)
  ]

  between : (low high r : ℕ) → low ≤ high → one (ltb r low) + one (leb low r && ltb r high) ≡ one (ltb r high)
  between low high r h = grind (arith, nat_tests)

  -- of records that are all apart, all but `low + high` are left
  pub count_unstruck : (low high : ℕ) (xs : List X) → Apart xs → low + high ≤ length xs → low + (length (unstruck_by lower low high xs) + high) ≡ length xs
  count_unstruck low high xs apart h =
      let top = length xs - high in
      let split = count_split (foremost lower xs low) (stays_by lower low high xs) (foremost lower xs top) (λ x. between low top (rank_by lower xs x) (omega arith)) xs in
      omega (arith, split, length-filter (stays_by lower low high xs) xs, count_foremost xs apart low (omega arith), count_foremost xs apart top (omega arith))
