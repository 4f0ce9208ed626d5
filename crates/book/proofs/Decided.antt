-- What a decision on a call says of its refusal.
use Rattle.std.proofs.Common.{◌≡◌, Some, None, Ok, Err, Option, arith}
use Rattle.refusal.specs.declared.Refusal.{Refusal}
use Rattle.book.specs.Seen.{granted_or}

-- granted: nothing refuses
pub let_pass : {X : Type 0} (o : Option Refusal) (x y : X) → Ok y ≡ granted_or o x → (o ≡ None) × (y ≡ x)
let_pass o x y e = grind arith

-- refused: for that
pub turned_down : {X : Type 0} (o : Option Refusal) (x : X) (r : Refusal) → Err r ≡ granted_or o x → o ≡ Some r
turned_down o x r e = grind arith
