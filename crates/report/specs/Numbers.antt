-- The numbers of a line: decimal digits, each number fits 32 bits, at most 100 of them.
use Rattle.std.specs.Prelude.{ℕ, ◌+◌, ◌-◌, ◌*◌, cond, ◌&&◌, List, [], ◌∷◌, ◌++◌, length, Ok, Err, fold, Result, nat_le, nat_lt}
use Rattle.report.specs.declared.fault.Fault.{Fault}
use Rattle.report.specs.declared.fault.Fault.TheVariants.{NotANumber, OutOfRange, TooManyNumbers}

-- a number that fits 32 bits
abbrev pub fitting : ℕ → Result ℕ Fault
fitting n = cond (nat_lt n 4294967296) (Ok n) (Err OutOfRange)

-- a number with one more digit behind it
abbrev pub with_digit : Result ℕ Fault → ℕ → Result ℕ Fault
with_digit (Err fault) b = Err fault
with_digit (Ok n) b = cond (nat_le 48 b && nat_le b 57) (fitting (n * 10 + (b - 48))) (Err NotANumber)

-- a number of one digit or more
abbrev pub number_in : List ℕ → Result ℕ Fault
number_in [] = Err NotANumber
number_in (b ∷ bs) = fold with_digit (Ok 0) (b ∷ bs)

-- one more number behind others
abbrev pub pushed : List ℕ → Result ℕ Fault → Result (List ℕ) Fault
pushed ns (Err fault) = Err fault
pushed ns (Ok n) = Ok (ns ++ (n ∷ []))

-- one more field: a number, and not the 101st
abbrev pub with_field : Result (List ℕ) Fault → List ℕ → Result (List ℕ) Fault
with_field (Err fault) field = Err fault
with_field (Ok ns) field = cond (nat_lt (length ns) 100) (pushed ns (number_in field)) (Err TooManyNumbers)

abbrev pub numbers_in : List (List ℕ) → Result (List ℕ) Fault
numbers_in fields = fold with_field (Ok []) fields
