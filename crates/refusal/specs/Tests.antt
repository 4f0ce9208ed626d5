-- Refusals in their order: a list of tests, of which the first that holds refuses.
use Rattle.std.specs.Prelude.{Bool, cond, List, [], ◌∷◌, Some, None, Option}
use Rattle.refusal.specs.declared.Refusal.{Refusal}

abbrev pub refused_if : Bool → Refusal → Option Refusal
refused_if test r = cond test (Some r) None

abbrev pub first_of : List (Option Refusal) → Option Refusal
first_of [] = None
first_of (None ∷ rest) = first_of rest
first_of (Some r ∷ rest) = Some r
