-- How often a slip stands in a list.
use Rattle.std.proofs.Common.{◌≡◌, ℕ, ◌+◌, ◌-◌, Bool, true, false, cond, ◌&&◌, ◌||◌, eqb, ltb, List, [], ◌∷◌, refl, ap, ◌∙◌, subst, arith}
use Rattle.std.proofs.lemmas.Bool.Decides.{nat_tests}
use Rattle.book.specs.declared.register.Register.{Register}
use Rattle.book.specs.State.{place}
use Rattle.book.specs.Calls.{Slip, of_book}
use Rattle.book.specs.Runs.{same_slip, held, without}

abbrev pub copies : Slip → List Slip → ℕ
copies s [] = 0
copies s (x ∷ xs) = cond (same_slip s x) (copies s xs + 1) (copies s xs)

same_true : (a b : Slip) → same_slip a b ≡ true → a ≡ b
same_true a b e = grind arith

-- a slip is held if it stands there at all
held_step : (t h : Bool) (n : ℕ) → h ≡ ltb 0 n → (t || h) ≡ ltb 0 (cond t (n + 1) n)
held_step t h n e = grind arith

pub held_counts : (s : Slip) (xs : List Slip) → held s xs ≡ ltb 0 (copies s xs)
held_counts s [] = refl
held_counts s (x ∷ xs) = held_step (same_slip s x) (held s xs) (copies s xs) (held_counts s xs)

-- one copy fewer of a slip taken out
pub copies_without : (t s : Slip) (xs : List Slip) → copies t (without s xs) ≡ cond (same_slip t s) (copies t xs - 1) (copies t xs)
copies_without t s [] = none (same_slip t s)
  where
    none : (b : Bool) → 0 ≡ cond b (0 - 1) 0
    none b = grind arith
copies_without t s (x ∷ xs) = go (copies_without t s xs) (same_slip s x) refl
  where
    here : (b : Bool) (n : ℕ) → n ≡ cond b (cond b (n + 1) n - 1) (cond b (n + 1) n)
    here b n = grind arith

    there : (b c : Bool) (n m : ℕ) → (b ≡ true → c ≡ false) → m ≡ cond b (n - 1) n → cond c (m + 1) m ≡ cond b (cond c (n + 1) n - 1) (cond c (n + 1) n)
    there b c n m f e = grind arith

    go : copies t (without s xs) ≡ cond (same_slip t s) (copies t xs - 1) (copies t xs) → (b : Bool) → same_slip s x ≡ b → copies t (cond b xs (x ∷ without s xs)) ≡ cond (same_slip t s) (copies t (x ∷ xs) - 1) (copies t (x ∷ xs))
    go rest true e = subst (λ y. copies t xs ≡ cond (same_slip t s) (copies t (y ∷ xs) - 1) (copies t (y ∷ xs))) (same_true s x e) (here (same_slip t s) (copies t xs))
    go rest false e = there (same_slip t s) (same_slip t x) (copies t xs) (copies t (without s xs)) (λ f. ap (λ y. same_slip y x) (same_true t s f) ∙ e) rest

-- a slip of this book is another one just if both are of this book and name one hour
pub slips_meet : (s : Register) (x y : Slip) → of_book s y ≡ true → same_slip x y ≡ (of_book s x && eqb (place x.day x.hour) (place y.day y.hour))
slips_meet s x y f = grind (arith, nat_tests)
