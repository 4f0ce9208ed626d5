-- A fold that stays at its first fault: as a loop goes through it, and as a `try_fold` computes it.
use Rattle.std.proofs.Common.{◌≡◌, ℕ, ◌+◌, ◌<◌, ◌≤◌, List, [], ◌∷◌, length, get_or, take, map, Some, None, Ok, Err, fold, Option, Result, subst, sym, refl, ap, ◌∙◌}
use Rattle.std.specs.Fn.{Called}
use Rattle.std.specs.Iterator.{TryFoldTurn, TryFoldsItems}
use Rattle.std.specs.List.{FoldsTo}
use Rattle.std.specs.Result.{IsErr, IsErrAnd, result_from_control_flow}
use Rattle.std.proofs.lemmas.Iterator.{YieldsList}
use Rattle.std.proofs.lemmas.Iterator.Consumers.{YieldsList-so_far, YieldsList-turn, YieldsList-end}
use Rattle.std.proofs.lemmas.List.{take_all}
use Rattle.std.proofs.lemmas.List.Folds.{fold_stuck}
use Rattle.std.proofs.lemmas.List.Sums.{fold_more}
use Rattle.std.proofs.lemmas.Result.{err_from_is_err_and}
use Rattle.report.specs.declared.fault.Fault.{Fault}
use denote.Param.Members.{Mut}

module _ {B Y : Type 0} (h : Result Y Fault → B → Result Y Fault) (stays : (fault : Fault) (b : B) → h (Err fault) b ≡ Err fault) (init : Y) (all : List B) where
  -- one turn of the loop, at the item that stands there
  pub fold_goes : (n : ℕ) (b d : B) (a z : Y) → n < length all → b ≡ get_or all n d → fold h (Ok init) (take n all) ≡ Ok a → h (Ok a) b ≡ Ok z → fold h (Ok init) (take (n + 1) all) ≡ Ok z
  fold_goes n b d a z l here so_far e =
      fold_more h (Ok init) all n d l ∙ ap (λ (w : Result Y Fault). h w (get_or all n d)) so_far ∙ ap (h (Ok a)) (sym here) ∙ e

  -- a turn that ends in a fault
  pub fold_stops : (n : ℕ) (b d : B) (a : Y) (fault : Fault) → n < length all → b ≡ get_or all n d → fold h (Ok init) (take n all) ≡ Ok a → h (Ok a) b ≡ Err fault → fold h (Ok init) all ≡ Err fault
  fold_stops n b d a fault l here so_far e =
      sym (fold_stuck h (Err fault) (stays fault) (Ok init) all n d l (ap (λ (w : Result Y Fault). h w (get_or all n d)) so_far ∙ ap (h (Ok a)) (sym here) ∙ e))

  -- the loop's end
  pub fold_ends : (n : ℕ) (a : Y) → length all ≤ n → fold h (Ok init) (take n all) ≡ Ok a → fold h (Ok init) all ≡ Ok a
  fold_ends n a l so_far = ap (fold h (Ok init)) (sym (take_all n all l)) ∙ so_far

module _ {A B Y F : Type 0} {v : A → B} (g : Mut F (Y × (A × Unit {0})) (Result Y Fault)) (h : Result Y Fault → B → Result Y Fault) (f : F) (k : (a : Y) (x : A) (w : Result Y Fault) (q : F) → Called g f (a, (x, tt)) w q → (q ≡ f) × (w ≡ h (Ok a) (v x))) where
  turns : (xs : List A) (p q : F × Y) → p.0 ≡ f → FoldsTo {P = F × Y} (TryFoldTurn g (λ w c. w ≡ result_from_control_flow c)) p xs q → (q.0 ≡ f) × (fold h (Ok p.1) (map v xs) ≡ Ok q.1)
  turns [] p q a c = (ap (λ (w : F × Y). w.0) (sym c) ∙ a, ap (λ (w : F × Y). Ok w.1) c)
  turns (x ∷ xs) p q a c =
      let m = k p.1 x c.1.0 c.0.0 (subst (λ w. Called g w (p.1, (x, tt)) c.1.0 c.0.0) a c.1.1) in
      let t = turns xs c.0 q m.0 c.2 in
      (t.0, ap (λ (w : Result Y Fault). fold h w (map v xs)) (sym m.1 ∙ c.1.2) ∙ t.1)

  pub fold_from_try_fold : ((fault : Fault) (b : B) → h (Err fault) b ≡ Err fault) → {S : Type 0} {steps : S → Option A → S → Type 0} {s : S} {all : List B} (u : S) (init : Y) (r : Result Y Fault) → TryFoldsItems steps g (λ w c. w ≡ result_from_control_flow c) (λ e w. IsErr w × IsErrAnd w (λ y. y ≡ e.0)) s f init r u → YieldsList steps v s all → r ≡ fold h (Ok init) all
  fold_from_try_fold stays {all = all} u init r (xs, None, q, a, y, t, e) road =
      e ∙ sym (turns xs (f, init) (q, a) refl t).1 ∙ ap (fold h (Ok init)) (YieldsList-end road xs y.0 y.1 None u refl y.2).0
  fold_from_try_fold stays {all = all} u init r (xs, Some x, q, a, y, t, e) road =
      let m = turns xs (f, init) (q, a) refl t in
      let here = YieldsList-turn road xs y.0 y.1 (Some x) u x refl y.2 in
      let last = k a x e.0 e.1 (subst (λ w. Called g w (a, (x, tt)) e.0 e.1) m.0 e.3) in
      let told = err_from_is_err_and r e.5.1 in
      told.1 ∙ ap Err told.2 ∙ sym (fold_stops h stays init all (length xs) (v x) (v x) a e.2.0 here.0 here.1 (ap (fold h (Ok init)) (sym (YieldsList-so_far road xs y.0 y.1)) ∙ m.1) (sym last.1 ∙ e.4))
