-- The search for reference days, day by day: what is still to be found from a day on.
use Rattle.std.proofs.Common.{◌≡◌, ℕ, suc, ◌-◌, ◌<◌, true, false, List, [], ◌∷◌, ◌++◌, length, take, Some, None, refl, sym, ap, ◌∙◌, arith, length-append}
use Rattle.std.proofs.lemmas.List.{append_assoc}
use Rattle.std.proofs.lemmas.Bool.{cond-true, cond-false}
use Rattle.std.specs.Option.{option_to_list}
use Rattle.load.specs.declared.loads.DayClass.{DayClass}
use Rattle.load.specs.declared.loads.DayClass.TheVariants.{Workday, Holiday, Neither}
use Rattle.load.specs.contracts.loads.DayClassPartialEq.TheImpl as class_eq
use Rattle.baseline.specs.declared.reference.Reference.{Reference}
use Rattle.load.specs.Meaning.{LoadMeaning}
use Rattle.baseline.specs.Reference.{same_class, class_before, reference_on, references_on}

-- what is found from the day before `past` on: `wanted` days are wanted, and `left` of the class may be looked at
abbrev pub ahead : LoadMeaning → DayClass → ℕ → ℕ → ℕ → ℕ → ℕ → List Reference
ahead m k c h wanted left past = take wanted (references_on m c h (take left (class_before m k past)))

-- what the code's `==` says of two classes is what the definition says
classes_eq : (a b : DayClass) → (class_eq.ghosts).eq a b ≡ same_class a b
classes_eq Workday Workday = refl
classes_eq Workday Holiday = refl
classes_eq Workday Neither = refl
classes_eq Holiday Workday = refl
classes_eq Holiday Holiday = refl
classes_eq Holiday Neither = refl
classes_eq Neither Workday = refl
classes_eq Neither Holiday = refl
classes_eq Neither Neither = refl

module _ (m : LoadMeaning) (k : DayClass) (c h : ℕ) where
  looked : (w l p : ℕ) → same_class (m.class p) k ≡ true → ahead m k c h w (suc l) (suc p) ≡ take w (option_to_list (reference_on m c h p) ++ references_on m c h (take l (class_before m k p)))
  looked w l p yes' = ap (λ ds. take w (references_on m c h (take (suc l) ds))) (cond-true _ _ _ yes')

  other : (w l past p : ℕ) → past ≡ suc p → same_class (m.class p) k ≡ false → ahead m k c h w l past ≡ ahead m k c h w l p
  other w l past p e no' = ap (ahead m k c h w l) e ∙ ap (λ ds. take w (references_on m c h (take l ds))) (cond-false _ _ _ no')

  passed : (w left l past p : ℕ) → left ≡ suc l → past ≡ suc p → same_class (m.class p) k ≡ true → reference_on m c h p ≡ None → ahead m k c h w left past ≡ ahead m k c h w l p
  passed w left l past p el ep yes' none = rw (el, ep) (looked w l p yes' ∙ ap (λ o. take w (option_to_list o ++ references_on m c h (take l (class_before m k p)))) none)

  found : (wanted w left l past p : ℕ) (r : Reference) → wanted ≡ suc w → left ≡ suc l → past ≡ suc p → same_class (m.class p) k ≡ true → reference_on m c h p ≡ Some r → ahead m k c h wanted left past ≡ r ∷ ahead m k c h w l p
  found wanted w left l past p r ew el ep yes' some' = rw (ew, el, ep) (looked (suc w) l p yes' ∙ ap (λ o. take (suc w) (option_to_list o ++ references_on m c h (take l (class_before m k p)))) some')

  -- a day of another class
  pub ahead_other : (w left past : ℕ) → 0 < past → (class_eq.ghosts).eq (m.class (past - 1)) k ≡ false → ahead m k c h w left (past - 1) ≡ ahead m k c h w left past
  ahead_other w left past before no' = sym (other w left past (past - 1) (omega arith) (sym (classes_eq _ _) ∙ no'))

  -- a day of the class that is no reference day
  pub ahead_none : (w left past : ℕ) → 0 < left → 0 < past → (class_eq.ghosts).eq (m.class (past - 1)) k ≡ true → reference_on m c h (past - 1) ≡ None → ahead m k c h w (left - 1) (past - 1) ≡ ahead m k c h w left past
  ahead_none w left past looks before yes' none = sym (passed w left (left - 1) past (past - 1) (omega arith) (omega arith) (sym (classes_eq _ _) ∙ yes') none)

  -- a reference day
  pub ahead_some : (n left past : ℕ) (days : List Reference) (r : Reference) → length days < n → 0 < left → 0 < past → (class_eq.ghosts).eq (m.class (past - 1)) k ≡ true → reference_on m c h (past - 1) ≡ Some r → (days ++ r ∷ []) ++ ahead m k c h (n - length (days ++ r ∷ [])) (left - 1) (past - 1) ≡ days ++ ahead m k c h (n - length days) left past
  ahead_some n left past days r room looks before yes' some' =
      append_assoc days (r ∷ []) _
      ∙ ap (λ rs. days ++ rs) (sym (found (n - length days) (n - length (days ++ r ∷ [])) left (left - 1) past (past - 1) r (omega (arith, length-append days (r ∷ []))) (omega arith) (omega arith) (sym (classes_eq _ _) ∙ yes') some'))
