-- Reference days are all apart, so that a method has some left once it strikes.
use Rattle.std.proofs.Common.{◌≡◌, ℕ, zero, suc, ◌<◌, ◌≤◌, Bool, true, false, cond, List, [], ◌∷◌, ◌++◌, length, take, Some, None, filter, Option, ap, arith, rules}
use Rattle.std.specs.Option.{option_map, option_to_list}
use Rattle.std.specs.List.{AllByRecursion}
use Rattle.std.proofs.ByRecursion.{All-weaker}
use Rattle.std.proofs.lemmas.Bool.Decides.{nat_tests}
use Rattle.baseline.specs.declared.method.Method.{Method}
use Rattle.baseline.specs.declared.reference.Reference.{Reference}
use Rattle.load.specs.Meaning.{LoadMeaning}
use Rattle.baseline.specs.Reference.{days_before, references_on, reference_days}
use Rattle.baseline.specs.Striking.{lower_load, unstruck}
use Rattle.baseline.proofs.Orders.{TotalOrder, Apart}
use Rattle.baseline.proofs.Ranks.{count_unstruck}

module _ {X : Type 0} (day : X → ℕ) where
  -- the days fall, from below d
  abbrev Falls : ℕ → List X → Type 0
  Falls d [] = Unit {0}
  Falls d (x ∷ xs) = (day x < d) × Falls (day x) xs

  falls_higher : (d e : ℕ) (xs : List X) → d ≤ e → Falls d xs → Falls e xs
  falls_higher d e [] h _ = tt
  falls_higher d e (x ∷ xs) h (l, rest) = (omega arith, rest)

  falls_take : (n d : ℕ) (xs : List X) → Falls d xs → Falls d (take n xs)
  falls_take zero d xs _ = tt
  falls_take (suc n) d [] _ = tt
  falls_take (suc n) d (x ∷ xs) (l, rest) = (l, falls_take n (day x) xs rest)

  under : (d : ℕ) (xs : List X) → Falls d xs → AllByRecursion (λ x. day x < d) xs
  under d [] _ = tt
  under d (x ∷ xs) (l, rest) = (l, under d xs (falls_higher (day x) d xs (omega arith) rest))

  later : (x y : X) → day y < day x → x ≡ y → ⊥
  later x y l e = let s : day x ≡ day y = ap day e in omega arith

  falls_apart : (d : ℕ) (xs : List X) → Falls d xs → Apart xs
  falls_apart d [] _ = tt
  falls_apart d (x ∷ xs) (l, rest) = (All-weaker _ _ (λ y h. later x y h) xs (under (day x) xs rest), falls_apart (day x) xs rest)

-- days, and reference days, that fall from below d
abbrev DaysFall : ℕ → List ℕ → Type 0
DaysFall = Falls (λ day. day)

abbrev ReferencesFall : ℕ → List Reference → Type 0
ReferencesFall = Falls (λ r. r.day)

falls_before : (d : ℕ) → DaysFall d (days_before d)
falls_before zero = tt
falls_before (suc d) = (omega arith, falls_before d)

falls_cond : (b : Bool) (d x : ℕ) (xs : List ℕ) → x < d → DaysFall x xs → DaysFall d (cond b (x ∷ xs) xs)
falls_cond true d x xs l rest = (l, rest)
falls_cond false d x xs l rest = falls_higher (λ day. day) x d xs (omega arith) rest

falls_kept : (p : ℕ → Bool) (d : ℕ) (xs : List ℕ) → DaysFall d xs → DaysFall d (filter p xs)
falls_kept p d [] _ = tt
falls_kept p d (x ∷ xs) (l, rest) = falls_cond (p x) d x (filter p xs) l (falls_kept p x xs rest)

falling_one : (b : Bool) (o : Option ℕ) (d x : ℕ) (rs : List Reference) → x < d → ReferencesFall x rs → ReferencesFall d (option_to_list {X = Reference} (cond b (option_map (λ v. record { day = x; load = v }) o) None) ++ rs)
falling_one true (Some v) d x rs l rest = (l, rest)
falling_one true None d x rs l rest = falls_higher (λ r. r.day) x d rs (omega arith) rest
falling_one false o d x rs l rest = falls_higher (λ r. r.day) x d rs (omega arith) rest

falling_on : (m : LoadMeaning) (c h d : ℕ) (xs : List ℕ) → DaysFall d xs → ReferencesFall d (references_on m c h xs)
falling_on m c h d [] _ = tt
falling_on m c h d (x ∷ xs) (l, rest) = falling_one (m.stands c x) (m.load c x h) d x (references_on m c h xs) l (falling_on m c h x xs rest)

pub days_apart : (m : LoadMeaning) (k : Method) (c d h : ℕ) → Apart (reference_days m k c d h)
days_apart m k c d h = falls_apart (λ r. r.day) d _ (falls_take (λ r. r.day) k.n d _ (falling_on m c h d _ (falls_take (λ day. day) k.reach d _ (falls_kept _ d _ (falls_before d)))))

pub load_order : TotalOrder lower_load
load_order = record {
  irreflexive = λ x. grind (arith, nat_tests);
  transitive = λ x y z p q. grind (arith, nat_tests);
  connected = λ x y p q. search rules;
}

-- with n reference days, as many are left as the method keeps
pub count_left : (m : LoadMeaning) (k : Method) (c d h : ℕ) → k.n ≤ length (reference_days m k c d h) → 0 < length (unstruck k.low k.high (reference_days m k c d h))
count_left m k c d h enough = omega (arith, count_unstruck lower_load load_order k.low k.high (reference_days m k c d h) (days_apart m k c d h) (omega (arith, k.kept)), k.kept)
