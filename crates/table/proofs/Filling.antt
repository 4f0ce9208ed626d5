-- What stands in a list after lines were written from a place on.
use Rattle.std.proofs.Common.{◌≡◌, ℕ, zero, suc, ◌+◌, ◌-◌, ◌<◌, ◌≤◌, min, ◌≢◌, ◌⊎◌, List, length, get_or, set, sym, refl, ap, ◌∙◌, inl, inr, ⊎_elim, zero-add, add-one, arith, length-set, get_or-set_other, get_or-set_same}
use Rattle.std.proofs.lemmas.List.{set_past, ext_get_or}
use Rattle.std.proofs.lemmas.Bool.{cases_lt}
use Rattle.std.proofs.lemmas.List.Edits.{paste_none, paste_more}
use Rattle.std.proofs.lemmas.Slice.{put_mid-paste}
use borrow.Rule.Slice.PartMut.{put_mid}
use lib.Seq.{paste}
use Rattle.table.specs.Tables.{filled}

-- the list keeps its length
pub length_filled : {X : Type 0} (xs : List X) (at n : ℕ) (f : ℕ → X) → length (filled xs at n f) ≡ length xs
length_filled xs at zero f = refl
length_filled xs at (suc n) f = simp length-set (length_filled xs at n f)

-- equal lines written leave equal lists
pub filled_same : {X : Type 0} (xs : List X) (at n : ℕ) (f g : ℕ → X) → ((k : ℕ) → k < n → f k ≡ g k) → filled xs at n f ≡ filled xs at n g
filled_same xs at zero f g h = refl
filled_same xs at (suc n) f g h =
    let a = filled_same xs at n f g (λ k l. h k (omega arith)) in
    let b = h n (omega arith) in
    cc

-- a place that was written
pub read_filled : {X : Type 0} (xs : List X) (at n k : ℕ) (f : ℕ → X) (d : X) → k < n → at + k < length xs → get_or (filled xs at n f) (at + k) d ≡ f k
read_filled xs at zero k f d h l = absurd (omega arith)
read_filled xs at (suc n) k f d h l = ⊎_elim (λ m. before (read_filled xs at n k f d m l) m) here (cases_lt k n)
  where
    before : get_or (filled xs at n f) (at + k) d ≡ f k → k < n → get_or (filled xs at (suc n) f) (at + k) d ≡ f k
    before e m = let ne : at + k ≢ at + n = λ e. absurd (omega arith) in rw get_or-set_other e

    here : n ≤ k → get_or (filled xs at (suc n) f) (at + k) d ≡ f k
    here m =
        let e : n ≡ k = omega arith in
        let long : at + n < length (filled xs at n f) = omega (arith, length_filled xs at n f) in
        ap (λ j. get_or (filled xs at (suc n) f) (at + j) d) (sym e) ∙ get_or-set_same (filled xs at n f) (at + n) (f n) d long ∙ ap f e

-- a place before or behind what was written
pub read_beside : {X : Type 0} (xs : List X) (at n i : ℕ) (f : ℕ → X) (d : X) → (i < at) ⊎ (at + n ≤ i) → get_or (filled xs at n f) i d ≡ get_or xs i d
read_beside xs at zero i f d h = refl
read_beside xs at (suc n) i f d h = get_or-set_other (filled xs at n f) (at + n) i (f n) d (omega arith) ∙ read_beside xs at n i f d (⊎_elim (λ l. inl l) (λ l. inr (omega arith)) h)

-- lines past the list's end change nothing
pub filled_past : {X : Type 0} (xs : List X) (at n m : ℕ) (f : ℕ → X) → length xs ≤ at + n → filled xs at (n + m) f ≡ filled xs at n f
filled_past xs at n zero f h = let e : n + 0 ≡ n = omega arith in ap (λ k. filled xs at k f) e
filled_past xs at n (suc m) f h =
    let e : n + suc m ≡ suc (n + m) = omega arith in
    let long : length (filled xs at (n + m) f) ≤ at + (n + m) = omega (arith, length_filled xs at (n + m) f) in
    ap (λ k. filled xs at k f) e ∙ set_past (filled xs at (n + m) f) (at + (n + m)) (f (n + m)) long ∙ filled_past xs at n m f h

-- as many lines as the list has places behind the first, or as are asked for
filled_rest : {X : Type 0} (xs : List X) (at n k : ℕ) (f : ℕ → X) → k ≤ n → min n (length xs - at) ≤ k → filled xs at k f ≡ filled xs at n f
filled_rest xs at n k f h m = ⊎_elim short whole (cases_lt k n)
  where
    short : k < n → filled xs at k f ≡ filled xs at n f
    short l =
        let e : k + (n - k) ≡ n = omega arith in
        sym (filled_past xs at k (n - k) f (omega arith)) ∙ ap (λ j. filled xs at j f) e

    whole : n ≤ k → filled xs at k f ≡ filled xs at n f
    whole l = let e : k ≡ n = omega arith in ap (λ j. filled xs at j f) e

-- a row copied over the places from one on
pub filled_copied : {X : Type 0} (xs s : List X) (at n : ℕ) (d : X) → at + n ≤ length xs → n ≤ length s → filled xs at n (λ k. get_or s k d) ≡ paste xs at s n
filled_copied xs s at zero d l m = paste_none xs at s
filled_copied xs s at (suc n) d l m =
    let e = filled_copied xs s at n d (omega arith) (omega arith) in
    ap (λ ys. set ys (at + n) (get_or s n d)) e ∙ paste_more xs at s n d (omega arith) (omega arith) ∙ ap (paste xs at s) (add-one n)

-- lines written over the places from one on
pub filled_over : {X : Type 0} (xs ys : List X) (at k m : ℕ) (f : ℕ → X) (d : X) → m ≡ k → at + k ≤ length xs → length ys ≡ k → ((j : ℕ) → j < k → get_or ys j d ≡ f j) → put_mid at m xs ys ≡ filled xs at k f
filled_over xs ys at k m f d e l n h = put_mid-paste at m xs ys ys k refl (sym e) (sym n) ∙ sym (filled_copied xs ys at k d l (omega arith)) ∙ filled_same xs at k (λ j. get_or ys j d) f h

-- and over all of a list
pub filled_whole : {X : Type 0} (xs ys : List X) (n : ℕ) (f : ℕ → X) (d : X) → length xs ≡ n → length ys ≡ n → ((j : ℕ) → j < n → get_or ys j d ≡ f j) → ys ≡ filled xs 0 n f
filled_whole xs ys n f d l m h = ext_get_or d ys (filled xs 0 n f) (m ∙ sym (length_filled xs 0 n f ∙ l)) (λ j k. h j (omega arith) ∙ sym (ap (λ i. get_or (filled xs 0 n f) i d) (sym (zero-add j)) ∙ read_filled xs 0 n j f d (omega arith) (omega arith)))

-- and as far as the list goes
pub filled_part : {X : Type 0} (xs ys : List X) (at n a k : ℕ) (f : ℕ → X) (d : X) → a ≡ min at (length xs) → k ≡ min n (length xs - a) → length ys ≡ k → ((j : ℕ) → j < k → get_or ys j d ≡ f j) → put_mid a (a + k - a) xs ys ≡ filled xs at n f
filled_part xs ys at n a k f d e g l h = filled_over xs ys a k (a + k - a) f d (omega arith) (omega arith) l h ∙ ⊎_elim within past (cases_lt at (length xs))
  where
    within : at < length xs → filled xs a k f ≡ filled xs at n f
    within i = let b : a ≡ at = omega arith in ap (λ j. filled xs j k f) b ∙ filled_rest xs at n k f (omega arith) (omega arith)

    past : length xs ≤ at → filled xs a k f ≡ filled xs at n f
    past i = let z : k ≡ 0 = omega arith in ap (λ j. filled xs a j f) z ∙ sym (filled_past xs at 0 n f (omega arith)) ∙ ap (λ j. filled xs at j f) (zero-add n)
