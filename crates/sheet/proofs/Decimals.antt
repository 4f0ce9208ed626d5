-- What the library writes of a number is its text in a sheet.
use Rattle.std.proofs.Common.{◌≡◌, ℕ, zero, suc, ◌^◌, ◌<◌, ◌≤◌, ◌∷◌, length, ℤ, pos, negsuc, FitsSigned, sym, ap, ◌∙◌, arith, length-append, to_z, of_z}
use mir.Syntax.{w128}
use Rattle.std.specs.Fmt.{signed_decimal}
use Rattle.std.proofs.lemmas.Bool.{lt-ltb, le-ltb}
use Rattle.std.proofs.lemmas.Int.{to_z-of_z}
use Rattle.std.proofs.lemmas.Fmt.{AppendsLastDigit, decimal_digit, decimal_by_steps_wide, decimal_from_appends_wide}
use Rattle.sheet.specs.Decimal.{digits, decimal, signed}

-- a number above nought has no more digits than it is large
digits_few : (n : ℕ) → n < 10 ^ 64 → 0 < n → length (signed_decimal (pos n)) ≤ n
digits_few = decimal_by_steps_wide (λ n ds. 0 < n → length ds ≤ n) (λ n h p. p) (λ n ds h f p. simp length-append (omega (arith, f (omega arith))))

last_digit_last : AppendsLastDigit digits
last_digit_last = record { one = λ k n h. rw (lt-ltb n 10 h); more = λ k n h. rw (le-ltb n 10 h) }

decimal_same : (n : ℕ) → n < 10 ^ 64 → signed_decimal (pos n) ≡ decimal n
unfolding decimal
decimal_same zero h = decimal_digit 0 (omega arith)
decimal_same (suc n) h = sym (decimal_from_appends_wide digits last_digit_last (suc n) (suc n) h (digits_few (suc n) h (omega arith)))

signed_same : (z : ℤ) → FitsSigned w128 z → signed_decimal z ≡ signed z
signed_same (pos n) h = let fits = h.sfits in decimal_same n (omega arith)
signed_same (negsuc n) h = let fits = h.sfits in ap (λ ds. 45 ∷ ds) (decimal_same (suc n) (omega arith))

-- the text of a number that a call is handed
pub number_text : (z : ℤ) → FitsSigned w128 z → signed_decimal (to_z w128 (of_z w128 z)) ≡ signed z
number_text z h = ap signed_decimal (to_z-of_z w128 z h) ∙ signed_same z h
