-- The reference days of a customer: which days are looked at, and which are chosen.
use Rattle.std.specs.Prelude.{ℕ, zero, suc, Bool, true, false, cond, List, [], ◌∷◌, take, None, filter, Option}
use Rattle.std.specs.Option.{option_map, option_to_list}
use Rattle.std.specs.List.{flat_map}
use Rattle.load.specs.declared.loads.DayClass.{DayClass}
use Rattle.load.specs.declared.loads.DayClass.TheVariants.{Workday, Holiday, Neither}
use Rattle.load.specs.Meaning.{LoadMeaning}
use Rattle.baseline.specs.declared.method.Method.{Method}
use Rattle.baseline.specs.declared.reference.Reference.{Reference}

-- the days before d, newest first
abbrev pub days_before : ℕ → List ℕ
days_before zero = []
days_before (suc d) = d ∷ days_before d

abbrev pub same_class : DayClass → DayClass → Bool
same_class Workday Workday = true
same_class Workday Holiday = false
same_class Workday Neither = false
same_class Holiday Workday = false
same_class Holiday Holiday = true
same_class Holiday Neither = false
same_class Neither Workday = false
same_class Neither Holiday = false
same_class Neither Neither = true

-- the days of a class before d, newest first
abbrev pub class_before : LoadMeaning → DayClass → ℕ → List ℕ
class_before m class d = filter (λ day. same_class (m.class day) class) (days_before d)

-- the day as a reference day of customer c for hour h: none if it does not stand or has no load in that hour
abbrev pub reference_on : LoadMeaning → ℕ → ℕ → ℕ → Option Reference
reference_on m c h day = cond (m.stands c day) (option_map (λ load. record { day = day; load = load }) (m.load c day h)) None

-- those of the days that can be reference days
abbrev pub references_on : LoadMeaning → ℕ → ℕ → List ℕ → List Reference
references_on m c h days = flat_map (λ day. option_to_list (reference_on m c h day)) days

-- of the nearest `reach` days of the class before d, standing or not, the first n that stand and have a load in hour h
abbrev pub reference_days : LoadMeaning → Method → ℕ → ℕ → ℕ → List Reference
reference_days m k c d h = take k.n (references_on m c h (take k.reach (class_before m k.class d)))
