-- Rows of one flat list do not meet.
use Rattle.std.proofs.Common.{◌≡◌, ℕ, ◌+◌, ◌*◌, ◌<◌, ◌≤◌, Bool, true, false, cond, ◌&&◌, eqb, ◌≢◌, ◌⊎◌, List, length, get_or, set, refl, ap, ◌∙◌, inl, inr, ⊎_elim, mul-le-mul_right, arith, get_or-set_other, get_or-set_same}
use Rattle.std.proofs.lemmas.Bool.{cases_order, eqb-true, eqb-false}
use Rattle.table.specs.Tables.{filled}
use Rattle.table.proofs.Filling.{read_beside}

-- a place of another row lies before or behind the row
pub rows_apart : (w h g k : ℕ) → h ≢ g → k < w → (h * w + k < g * w) ⊎ (g * w + w ≤ h * w + k)
rows_apart w h g k ne l = ⊎_elim (λ e. absurd (ne e)) (λ o. ⊎_elim (λ lt. inl (omega (arith, mul-le-mul_right w lt))) (λ lt. inr (omega (arith, mul-le-mul_right w lt))) o) (cases_order h g)

-- a row's end is within the rows
pub row_within : (w h n : ℕ) → h < n → h * w + w ≤ n * w
row_within w h n l = omega (arith, mul-le-mul_right w l)

-- one place of a row written, any place of a row read
pub read_row : {X : Type 0} (xs : List X) (w p q h r : ℕ) (v d : X) → q < w → r < w → p * w + q < length xs → get_or (set xs (p * w + q) v) (h * w + r) d ≡ cond (eqb h p && eqb r q) v (get_or xs (h * w + r) d)
read_row xs w p q h r v d lq lr l = go (eqb h p) refl (eqb r q) refl
  where
    go : (s : Bool) → eqb h p ≡ s → (t : Bool) → eqb r q ≡ t → get_or (set xs (p * w + q) v) (h * w + r) d ≡ cond (s && t) v (get_or xs (h * w + r) d)
    go true e true f =
        let same : h * w + r ≡ p * w + q = (let a = eqb-true h p e in let b = eqb-true r q f in cc) in
        ap (λ j. get_or (set xs (p * w + q) v) j d) same ∙ get_or-set_same xs (p * w + q) v d l
    go true e false f =
        let row : h * w ≡ p * w = ap (λ x. x * w) (eqb-true h p e) in
        get_or-set_other xs (p * w + q) (h * w + r) v d (λ s. eqb-false r q f (omega arith))
    go false e t f = get_or-set_other xs (p * w + q) (h * w + r) v d (λ s. ⊎_elim (λ x. omega arith) (λ x. omega arith) (rows_apart w h p r (eqb-false h p e) lr))

-- a row filled leaves every other row
pub read_other_row : {X : Type 0} (xs : List X) (w h g n k : ℕ) (f : ℕ → X) (d : X) → h ≢ g → n ≤ w → k < w → get_or (filled xs (g * w) n f) (h * w + k) d ≡ get_or xs (h * w + k) d
read_other_row xs w h g n k f d ne m l = read_beside xs (g * w) n (h * w + k) f d (⊎_elim (λ o. inl o) (λ o. inr (omega arith)) (rows_apart w h g k ne l))
