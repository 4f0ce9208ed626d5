-- What stands at a place after a write.
use Rattle.std.proofs.Common.{arith, ◌≡◌, ℕ, zero, suc, ◌<◌, Bool, true, false, cond, eqb, ◌≢◌, List, length, get_or, set, replicate, sym, refl, subst}
use Rattle.std.proofs.lemmas.Bool.Decides.{nat_tests}
use Rattle.std.proofs.lemmas.Grind.{common_steps}
use Rattle.std.proofs.lemmas.Bool.{eqb-true, eqb-false}

module _ {X : Type 0} where
  -- one place written, any place read
  read_set : (xs : List X) (p h : ℕ) (v d : X) → p < length xs → get_or (set xs p v) h d ≡ cond (eqb h p) v (get_or xs h d)
  read_set xs p h v d l = grind (arith, nat_tests, common_steps)

  -- by cases on whether it is that place
  pub at_place : (xs : List X) (p h : ℕ) (v d : X) → p < length xs → (P : Bool → X → Type 0) → (h ≡ p → P true v) → (h ≢ p → P false (get_or xs h d)) → P (eqb h p) (get_or (set xs p v) h d)
  at_place xs p h v d l P here there = subst (P (eqb h p)) (sym (read_set xs p h v d l)) (go (eqb h p) refl)
    where
      go : (t : Bool) → eqb h p ≡ t → P t (cond t v (get_or xs h d))
      go true e = here (eqb-true h p e)
      go false e = there (eqb-false h p e)

  -- the same thing everywhere
  pub all_same : (n i : ℕ) (x : X) → get_or (replicate n x) i x ≡ x
  all_same zero i x = refl
  all_same (suc n) zero x = refl
  all_same (suc n) (suc i) x = all_same n i x
