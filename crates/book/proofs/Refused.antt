-- What lists of tests say.
use Rattle.std.proofs.Common.{◌≡◌, ℕ, zero, suc, ◌*◌, ◌<◌, ◌≤◌, Bool, true, false, List, [], ◌∷◌, ◌++◌, length, get_or, Some, None, Option, refl, arith}
use Rattle.refusal.specs.declared.Refusal.{Refusal}
use Rattle.refusal.specs.Tests.{refused_if, first_of}
use Rattle.table.specs.Lines.{ResourceLine}
use Rattle.table.specs.declared.lines.BuyerLine.{BuyerLine}
use Rattle.book.specs.declared.register.Register.{Register}
use Rattle.book.specs.State.{hours_of, in_month, place, short_for}

none_head : (o : Option Refusal) (os : List (Option Refusal)) → first_of (o ∷ os) ≡ None → (o ≡ None) × (first_of os ≡ None)
none_head o os e = grind arith

-- each of the tests passed
pub passed : (os : List (Option Refusal)) → first_of os ≡ None → (i : ℕ) → get_or os i None ≡ None
passed [] e i = refl
passed (o ∷ os) e zero = (none_head o os e).0
passed (o ∷ os) e (suc i) = passed os (none_head o os e).1 i

-- a refusal stands before further tests
pub first_kept : (os rest : List (Option Refusal)) (q : Refusal) → first_of os ≡ Some q → first_of (os ++ rest) ≡ Some q
first_kept [] rest q e = grind arith
first_kept (None ∷ os) rest q e = first_kept os rest q e
first_kept (Some r ∷ os) rest q e = e

-- where none refuses, the further tests say
pub first_after : (os rest : List (Option Refusal)) → first_of os ≡ None → first_of (os ++ rest) ≡ first_of rest
first_after [] rest e = refl
first_after (None ∷ os) rest e = first_after os rest e
first_after (Some r ∷ os) rest e = absurd (let z : ◌≡◌ {A = ℕ} 0 1 = cc in omega arith)

pub not_refused : (t : Bool) (r : Refusal) → refused_if t r ≡ None → t ≡ false
not_refused t r e = grind arith

pub month_bounds : (s : Register) (day hour : ℕ) → in_month s day hour ≡ true → (1 ≤ day) × (day ≤ s.days) × (1 ≤ hour) × (hour ≤ 24)
month_bounds s day hour e = grind arith

pub within_month : (s : Register) (day hour : ℕ) → in_month s day hour ≡ true → place day hour < hours_of s
within_month s day hour e = let m = month_bounds s day hour e in omega arith

-- lists that are not short
pub long_lists : (s : Register) (lines : List ResourceLine) (charges : List BuyerLine) → short_for s lines charges ≡ false → (hours_of s * s.enrolled ≤ length lines) × (hours_of s * s.buyers ≤ length charges)
long_lists s lines charges e = grind arith
