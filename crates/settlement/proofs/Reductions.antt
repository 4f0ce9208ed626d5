-- How the reduction grows with the count of customers.
use Rattle.std.proofs.Common.{◌≡◌, ℕ, zero, suc, ◌+◌, ◌<◌, ◌≤◌, Bool, true, false, ℤ, Ok, Err, Result, sym, ap, inl, inr, add-one, arith}
use Rattle.std.proofs.lemmas.Bool.{cases_eq, cases_Bool}
use Rattle.refusal.specs.declared.NoFigure.{NoFigure}
use Rattle.baseline.specs.Meaning.{SourceMeaning}
use Rattle.settlement.specs.Reduction.{cut, more, reduction}

module _ (m : SourceMeaning) (asked : ℕ → Bool) (day hour : ℕ) where
  abbrev sum : ℕ → Result ℤ NoFigure
  sum n = reduction m asked day hour n

  -- one asked customer more
  pub reduction_adds : (c : ℕ) (s x t : ℤ) → asked c ≡ true → sum c ≡ Ok s → Ok x ≡ more (Ok s) c (cut m c day hour) → x ≡ t → sum (c + 1) ≡ Ok t
  reduction_adds c s x t a e k same = rw add-one (simp (a, e, ← k, same))

  -- a customer that is not asked
  pub reduction_skips : (c : ℕ) → asked c ≡ false → sum (c + 1) ≡ sum c
  reduction_skips c a = rw add-one (simp a)

  -- a cause among the first customers is the whole sum's
  cause_stays : (e : NoFigure) (i n : ℕ) → i ≤ n → sum i ≡ Err e → sum n ≡ Err e
  cause_stays e i zero h g = let z : i ≡ 0 = omega arith in rw z at g
  cause_stays e i (suc n) h g =
      elim (cases_eq i (suc n)) [
        | inl same ↦ rw same at g
        | inr other ↦ let below : sum n ≡ Err e = cause_stays e i n (omega arith) g in
            elim (cases_Bool (asked n)) [ inl t ↦ simp (t, below) | inr f ↦ simp (f, below) ]
      ]

  -- the first customer with a cause
  pub reduction_ends : (c n : ℕ) (s : ℤ) (e : NoFigure) → c < n → asked c ≡ true → sum c ≡ Ok s → Err e ≡ more (Ok s) c (cut m c day hour) → sum n ≡ Err e
  reduction_ends c n s e h a t k = cause_stays e (suc c) n h (simp (a, t, ← k))

  -- customers of whom none is asked
  pub reduction_rest : (i n : ℕ) → i ≤ n → ((k : ℕ) → i ≤ k → k < n → asked k ≡ false) → sum n ≡ sum i
  reduction_rest i zero h none = let z : 0 ≡ i = omega arith in ap sum z
  reduction_rest i (suc n) h none =
      elim (cases_eq i (suc n)) [
        | inl same ↦ ap sum (sym same)
        | inr other ↦
            let unasked : asked n ≡ false = none n (omega arith) (omega arith) in
            let below : sum n ≡ sum i = reduction_rest i n (omega arith) (λ k l u. none k l (omega arith)) in
            simp unasked below
      ]
