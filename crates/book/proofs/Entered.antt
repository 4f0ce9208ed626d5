-- Lists that are made by a call at each place.
use Rattle.std.proofs.Common.{◌≡◌, ℕ, zero, suc, ◌+◌, ◌<◌, ◌≤◌, List, get_or, sym, ap, ◌∙◌, subst, ⊎_elim, arith}
use Rattle.std.proofs.lemmas.Bool.{cases_eq}
use Rattle.std.specs.Array.{IsFromFnResultFrom}
use Rattle.std.specs.Fn.{Called}
use denote.Param.Members.{Mut}

-- what calls from i on gave, where a call leaves what it reads
pub each_made : {F X : Type 0} (g : Mut F (ℕ × Unit {0}) X) (f : F) (ys : List X) (h : ℕ → X) (d : X) → ((i : ℕ) (y : X) (q : F) → Called g f (i, tt) y q → (q ≡ f) × (y ≡ h i)) → (n i : ℕ) → IsFromFnResultFrom g f ys i n → (k : ℕ) → i ≤ k → k < i + n → get_or ys k d ≡ h k
each_made g f ys h d s zero i m k l r = absurd (omega arith)
each_made g f ys h d s (suc n) i m k l r =
    let step = s i m.1 m.0 m.3 in
    ⊎_elim (λ (e : k ≡ i). ap (λ j. get_or ys j d) e ∙ m.2.1 d ∙ step.1 ∙ ap h (sym e))
    (λ (ne : k ≡ i → ⊥). each_made g f ys h d s n (i + 1) (subst (λ p. IsFromFnResultFrom g p ys (i + 1) n) step.0 m.4) k (omega arith) (omega arith))
    (cases_eq k i)
