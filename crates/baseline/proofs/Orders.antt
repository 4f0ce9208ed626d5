-- Records in a total order: their ranks, and which are left once some are struck, as the definitions of days have it.
use Rattle.std.proofs.Common.{◌≡◌, ℕ, ◌-◌, Bool, true, false, ◌&&◌, ltb, leb, List, [], ◌∷◌, length, count_by, filter}
use Rattle.std.specs.List.{AllByRecursion}

-- a total order, by its test "lower than"
pub record TotalOrder {X : Type 0} (lower : X → X → Bool) : Type 0 where
  pub irreflexive : (x : X) → lower x x ≡ false
  pub transitive : (x y z : X) → lower x y ≡ true → lower y z ≡ true → lower x z ≡ true
  pub connected : (x y : X) → lower x y ≡ false → lower y x ≡ false → x ≡ y

-- how many of the records are lower than x
abbrev pub rank_by : {X : Type 0} → (X → X → Bool) → List X → X → ℕ
rank_by lower xs x = count_by (λ y. lower y x) xs

-- x is one of the k lowest
abbrev pub foremost : {X : Type 0} → (X → X → Bool) → List X → ℕ → X → Bool
foremost lower xs k x = ltb (rank_by lower xs x) k

-- x is none of the `low` lowest and none of the `high` highest
abbrev pub stays_by : {X : Type 0} → (X → X → Bool) → ℕ → ℕ → List X → X → Bool
stays_by lower low high xs x = leb low (rank_by lower xs x) && ltb (rank_by lower xs x) (length xs - high)

-- the records that are left once the `low` lowest and the `high` highest are struck
abbrev pub unstruck_by : {X : Type 0} → (X → X → Bool) → ℕ → ℕ → List X → List X
unstruck_by lower low high xs = filter (stays_by lower low high xs) xs

-- no two of the records are the same
abbrev pub Apart : {X : Type 0} → List X → Type 0
Apart [] = Unit {0}
Apart (x ∷ xs) = AllByRecursion (λ y. x ≡ y → ⊥) xs × Apart xs
