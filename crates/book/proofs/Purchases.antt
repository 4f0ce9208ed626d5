-- The purchases that a telling stores add up to its total.
use Rattle.std.proofs.Common.{◌≡◌, ℕ, zero, suc, ◌+◌, ◌-◌, ◌<◌, ◌≤◌, List, [], ◌∷◌, length, get_or, replicate, sum, sym, refl, ap, ◌∙◌, inr, add-one, one-add, arith, length-set, get_or-set_other, get_or-set_same}
use Rattle.std.proofs.lemmas.List.Sums.{sum_by-cons}
use Rattle.table.specs.Tables.{filled}
use Rattle.table.proofs.Filling.{length_filled, read_filled, read_beside}
use Rattle.book.specs.declared.energies.Energies.{Energies}
use Rattle.book.specs.Telling.{energies_of, purchase}
use Rattle.book.proofs.Places.{all_same}

-- f 0 + f 1 + .. + f (n - 1)
abbrev sum_to : ℕ → (ℕ → ℕ) → ℕ
sum_to zero f = 0
sum_to (suc n) f = sum_to n f + f n

sum_same : (n : ℕ) (f g : ℕ → ℕ) → ((k : ℕ) → k < n → f k ≡ g k) → sum_to n f ≡ sum_to n g
sum_same zero f g h = refl
sum_same (suc n) f g h = let a = sum_same n f g (λ k l. h k (omega arith)) in let b = h n (omega arith) in cc

-- the first term taken out
sum_front : (n : ℕ) (f : ℕ → ℕ) → sum_to (suc n) f ≡ f 0 + sum_to n (λ k. f (suc k))
sum_front zero f = omega arith
sum_front (suc n) f = let a = sum_front n f in omega arith

-- terms of nought past a place
sum_past : (n m : ℕ) (f : ℕ → ℕ) → ((k : ℕ) → n ≤ k → f k ≡ 0) → sum_to (n + m) f ≡ sum_to n f
sum_past n zero f h = let e : n + 0 ≡ n = omega arith in ap (λ k. sum_to k f) e
sum_past n (suc m) f h =
    let e : n + suc m ≡ suc (n + m) = omega arith in
    ap (λ k. sum_to k f) e ∙ (let a = sum_past n m f h in let b = h (n + m) (omega arith) in omega arith)

sum_of : (xs : List ℕ) → sum_to (length xs) (λ k. get_or xs k 0) ≡ sum xs
sum_of [] = refl
sum_of (x ∷ xs) = sum_front (length xs) (λ k. get_or (x ∷ xs) k 0) ∙ (let a = sum_of xs in let b = sum_by-cons (λ y. y) x xs in omega arith)

-- energies of n buyers: some were bought, no buyer past n bought any, and all purchases come to the total
pub record SoundEnergies (n : ℕ) (e : Energies) : Type 0 where
  pub some : 0 < e.total
  pub past : (k : ℕ) → n ≤ k → purchase e k ≡ 0
  pub all : sum e.purchases ≡ e.total

module _ (t : ℕ) (o : List ℕ) (few : length o + 1 ≤ 8) (within : sum o ≤ t) where
  slots : List ℕ
  slots = filled (replicate 8 0) 1 (length o) (λ k. get_or o k 0)

  long : length slots ≡ 8
  unfolding slots
  long = length_filled (replicate 8 0) 1 (length o) (λ k. get_or o k 0)

  first : purchase (energies_of t o) 0 ≡ t - sum o
  unfolding slots
  first = get_or-set_same slots 0 (t - sum o) 0 (omega (arith, long))

  rest : (k : ℕ) → k < length o → purchase (energies_of t o) (suc k) ≡ get_or o k 0
  unfolding slots
  rest k l =
      get_or-set_other slots 0 (suc k) (t - sum o) 0 (omega arith) ∙ ap (λ j. get_or slots j 0) (sym (one-add k))
      ∙ read_filled (replicate 8 0) 1 (length o) k (λ j. get_or o j 0) 0 l (omega arith)

  past_all : (k : ℕ) → length o + 1 ≤ k → purchase (energies_of t o) k ≡ 0
  unfolding slots
  past_all k l =
      get_or-set_other slots 0 k (t - sum o) 0 (omega arith)
      ∙ read_beside (replicate 8 0) 1 (length o) k (λ j. get_or o j 0) 0 (inr (omega arith))
      ∙ all_same 8 k 0

  long_all : length (energies_of t o).purchases ≡ 8
  unfolding slots
  long_all = length-set slots 0 (t - sum o) ∙ long

  bought : sum (energies_of t o).purchases ≡ t
  bought =
      sym (sum_of (energies_of t o).purchases)
      ∙ (let eight : length (energies_of t o).purchases ≡ (length o + 1) + (8 - (length o + 1)) = omega (arith, long_all) in ap (λ n. sum_to n (purchase (energies_of t o))) eight)
      ∙ sum_past (length o + 1) (8 - (length o + 1)) (purchase (energies_of t o)) past_all
      ∙ ap (λ n. sum_to n (purchase (energies_of t o))) (add-one (length o))
      ∙ sum_front (length o) (purchase (energies_of t o))
      ∙ (let a = first in let b = sum_same (length o) _ _ rest in let c = sum_of o in omega arith)

  pub sound_told : (n : ℕ) → length o + 1 ≡ n → 0 < t → SoundEnergies n (energies_of t o)
  sound_told n e p = record { some = p; past = λ k l. past_all k (omega arith); all = bought }
