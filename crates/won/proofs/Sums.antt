-- Laws of sums of signed amounts.
use Rattle.std.proofs.Common.{◌≡◌, ℕ, zero, suc, ◌+◌, ◌*◌, ◌<◌, ◌≤◌, ℤ, pos, ◌+ℤ◌, ◌-ℤ◌, nat_abs, ◌≤ℤ◌, refl, ap, ◌∙◌, subst, ap₂, suc-mul, add-mul, add-one, arith}
use Rattle.std.proofs.lemmas.Int.{ints}
use Rattle.won.specs.Sums.{total_to}

-- one term more, at the index as code has it
pub total_more : (n : ℕ) (f : ℕ → ℤ) → total_to (n + 1) f ≡ total_to n f +ℤ f n
total_more n f = ap (λ m. total_to m f) (add-one n)

-- equal terms have equal sums
pub total_same : (n : ℕ) (f g : ℕ → ℤ) → ((k : ℕ) → k < n → f k ≡ g k) → total_to n f ≡ total_to n g
total_same zero f g h = refl
total_same (suc n) f g h = ap₂ ◌+ℤ◌ (total_same n f g (λ k l. h k (omega arith))) (h n (omega arith))

add_four : (s a b x y t : ℤ) → s ≡ a +ℤ b → t ≡ x +ℤ y → s +ℤ t ≡ (a +ℤ x) +ℤ (b +ℤ y)
add_four s a b x y t e f = omega (arith, ints)

sub_four : (s a b x y t : ℤ) → s ≡ a -ℤ b → t ≡ x -ℤ y → s +ℤ t ≡ (a +ℤ x) -ℤ (b +ℤ y)
sub_four s a b x y t e f = omega (arith, ints)

-- sums of sums and of differences
pub total_add : (n : ℕ) (f g : ℕ → ℤ) → total_to n (λ k. f k +ℤ g k) ≡ total_to n f +ℤ total_to n g
total_add zero f g = refl
total_add (suc n) f g = add_four _ (total_to n f) (total_to n g) (f n) (g n) _ (total_add n f g) refl

pub total_sub : (n : ℕ) (f g : ℕ → ℤ) → total_to n (λ k. f k -ℤ g k) ≡ total_to n f -ℤ total_to n g
total_sub zero f g = refl
total_sub (suc n) f g = sub_four _ (total_to n f) (total_to n g) (f n) (g n) _ (total_sub n f g) refl

plus_nought : (s t : ℤ) → s ≡ pos 0 → t ≡ pos 0 → s +ℤ t ≡ pos 0
plus_nought s t e f = omega (arith, ints)

-- terms of nought
pub total_nought : (n : ℕ) (f : ℕ → ℤ) → ((k : ℕ) → k < n → f k ≡ pos 0) → total_to n f ≡ pos 0
total_nought zero f h = refl
total_nought (suc n) f h = plus_nought _ _ (total_nought n f (λ k l. h k (omega arith))) (h n (omega arith))

no_more : (s t u : ℤ) → s ≡ u → t ≡ pos 0 → s +ℤ t ≡ u
no_more s t u e f = omega (arith, ints)

-- terms of nought past a place add nothing
pub total_past : (n m : ℕ) (f : ℕ → ℤ) → ((k : ℕ) → n ≤ k → f k ≡ pos 0) → total_to (n + m) f ≡ total_to n f
total_past n zero f h = let e : n + 0 ≡ n = omega arith in ap (λ k. total_to k f) e
total_past n (suc m) f h =
    let e : n + suc m ≡ suc (n + m) = omega arith in
    ap (λ k. total_to k f) e ∙ no_more _ _ _ (total_past n m f h) (h (n + m) (omega arith))

add_abs : (s t : ℤ) (n m : ℕ) → nat_abs s ≤ n * m → nat_abs t ≤ m → nat_abs (s +ℤ t) ≤ suc n * m
add_abs s t n m h g = let e = suc-mul n m in omega (arith, ints)

-- n terms, each at most m from nought
pub total_within : (n m : ℕ) (f : ℕ → ℤ) → ((k : ℕ) → k < n → nat_abs (f k) ≤ m) → nat_abs (total_to n f) ≤ n * m
total_within zero m f h = omega (arith, ints)
total_within (suc n) m f h = add_abs (total_to n f) (f n) n m (total_within n m f (λ k l. h k (omega arith))) (h n (omega arith))

add_le : (s t u v : ℤ) → s ≤ℤ u → t ≤ℤ v → (s +ℤ t) ≤ℤ (u +ℤ v)
add_le s t u v h g = omega (arith, ints)

-- a sum does not fall as its terms grow
pub total_grows : (n : ℕ) (f g : ℕ → ℤ) → ((k : ℕ) → k < n → f k ≤ℤ g k) → total_to n f ≤ℤ total_to n g
total_grows zero f g h = omega (arith, ints)
total_grows (suc n) f g h = add_le _ _ _ _ (total_grows n f g (λ k l. h k (omega arith))) (h n (omega arith))

-- a loop's turn: s was the sum of n terms, v is the next term and t the sum with it
pub total_turn : (n : ℕ) (f : ℕ → ℤ) (s v t : ℤ) → s ≡ total_to n f → v ≡ f n → t ≡ s +ℤ v → t ≡ total_to (n + 1) f
total_turn n f s v t p q r = let m = total_more n f in cc

-- and no term is further from nought than m
pub within_turn : (n m : ℕ) (s v t : ℤ) → nat_abs s ≤ n * m → nat_abs v ≤ m → t ≡ s +ℤ v → nat_abs t ≤ (n + 1) * m
within_turn n m s v t h g e = let d = add-mul n 1 m in omega (arith, ints)

-- where the index at the loop's end is the count
pub total_end : (n m b : ℕ) (f : ℕ → ℤ) (s : ℤ) → n ≡ m → s ≡ total_to n f → nat_abs s ≤ n * b → (s ≡ total_to m f) × (nat_abs s ≤ m * b)
total_end n m b f s e p h = (p ∙ ap (λ k. total_to k f) e, subst (λ k. nat_abs s ≤ k * b) e h)
