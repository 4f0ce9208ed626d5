-- The methods of the ranked source, by their texts.
use Rattle.std.specs.Prelude.{ℕ, cond, List, [], ◌∷◌, Ok, Err, codes, Result}
use Rattle.std.proofs.Common.{lit<, lit≤}
use Rattle.std.specs.Str.{bytes_eq}
use Rattle.load.specs.declared.loads.DayClass.TheVariants.{Workday, Holiday}
use Rattle.refusal.specs.declared.Refusal.{Refusal}
use Rattle.refusal.specs.declared.Refusal.TheVariants.{UnknownMethod}
use Rattle.baseline.specs.declared.method.Method.{Method}

-- the same method for holidays
abbrev pub on_holidays : Method → Method
on_holidays k = record { class = Holiday; n = k.n; high = k.high; low = k.low; reach = k.reach; few = k.few; kept = k.kept }

-- text; class of the days, n reference days, high and low struck, reach of the search
abbrev pub methods : List (List ℕ × Method)
methods =
    (codes "max45", record { class = Workday; n = 5; high = 0; low = 1; reach = 10; few = lit≤ tt; kept = lit< tt })
    ∷ (codes "mid610", record { class = Workday; n = 10; high = 2; low = 2; reach = 20; few = lit≤ tt; kept = lit< tt })
    ∷ (codes "mid46", record { class = Workday; n = 6; high = 1; low = 1; reach = 12; few = lit≤ tt; kept = lit< tt })
    ∷ (codes "mid810", record { class = Workday; n = 10; high = 1; low = 1; reach = 20; few = lit≤ tt; kept = lit< tt })
    ∷ (codes "hmax45", record { class = Holiday; n = 5; high = 0; low = 1; reach = 10; few = lit≤ tt; kept = lit< tt })
    ∷ (codes "hmid610", record { class = Holiday; n = 10; high = 2; low = 2; reach = 20; few = lit≤ tt; kept = lit< tt })
    ∷ (codes "hmid46", record { class = Holiday; n = 6; high = 1; low = 1; reach = 12; few = lit≤ tt; kept = lit< tt })
    ∷ []

-- the method of the first row that has the text, or the refusal
abbrev pub method_in : List (List ℕ × Method) → List ℕ → Result Method Refusal
method_in [] text = Err UnknownMethod
method_in (row ∷ rows) text = cond (bytes_eq text row.0) (Ok row.1) (method_in rows text)

abbrev pub method_or_refusal : List ℕ → Result Method Refusal
method_or_refusal text = method_in methods text
