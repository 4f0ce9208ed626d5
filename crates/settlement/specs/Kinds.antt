-- The kinds of resources by their numbers.
use Rattle.std.specs.Prelude.{◌≡◌, ℕ, cond, Some, None, Option, Result, MatchResult, ◌==◌}
use Rattle.settlement.specs.declared.kinds.UnknownKind.{UnknownKind}
use Rattle.settlement.specs.declared.terms.Kind.{Kind}
use Rattle.settlement.specs.declared.terms.Kind.TheVariants.{Standard, SmallMedium, StandardHoliday, SmallMediumHoliday}

-- 1 standard, 2 small and medium, 3 and 4 their holiday forms
abbrev pub kind_numbered : ℕ → Option Kind
kind_numbered n =
    cond (n == 1) (Some Standard)
    (cond (n == 2) (Some SmallMedium)
    (cond (n == 3) (Some StandardHoliday)
    (cond (n == 4) (Some SmallMediumHoliday) None)))

-- the result is the kind of the number, or an error with the number if no kind has it
abbrev pub KindNumbered : ℕ → Result Kind UnknownKind → Type 0
KindNumbered n r = MatchResult r (λ kind. kind_numbered n ≡ Some kind) (λ unknown. (kind_numbered n ≡ None) × (unknown.0 ≡ n))
