-- A record of workdays, and what the methods make of it.
use Rattle.std.specs.Prelude.{ℕ, zero, suc, cond, List, [], ◌∷◌, map, length, ℤ, pos, Some, None, Ok, Err, Option, Result, nat_lt}
use Rattle.refusal.specs.declared.Cause.{Cause}
use Rattle.refusal.specs.declared.Refusal.{Refusal}
use Rattle.load.specs.declared.loads.DayClass.TheVariants.{Workday, Neither}
use Rattle.load.specs.Meaning.{LoadMeaning}
use Rattle.baseline.specs.declared.method.Method.{Method}
use Rattle.baseline.specs.declared.reference.Reference.{Reference}
use Rattle.baseline.specs.Methods.{method_or_refusal}
use Rattle.baseline.specs.Reference.{reference_days}
use Rattle.baseline.specs.Sources.{ranked_source}
use Rattle.baseline.specs.Striking.{unstruck}

abbrev pub load_on : List ℕ → ℕ → Option ℕ
load_on [] d = None
load_on (x ∷ xs) zero = Some x
load_on (x ∷ xs) (suc d) = load_on xs d

-- workdays from day 0 on that all stand, with these loads in every hour, oldest first
abbrev pub workdays : List ℕ → LoadMeaning
workdays loads = record {
  load = λ c d h. load_on loads d;
  class = λ d. cond (nat_lt d (length loads)) Workday Neither;
  stands = λ c d. nat_lt d (length loads);
}

abbrev pub figure_or_none : Result ℤ Cause → List ℤ
figure_or_none (Ok v) = v ∷ []
figure_or_none (Err cause) = []

-- the baseline by a method on the day after these workdays
abbrev pub baseline_by : Result Method Refusal → List ℕ → List ℤ
baseline_by (Err refusal) loads = []
baseline_by (Ok k) loads = figure_or_none ((ranked_source (workdays loads) k).baseline 0 (length loads) 11)

-- the method called for by its text
abbrev pub baseline_after : List ℕ → List ℕ → List ℤ
baseline_after text loads = baseline_by (method_or_refusal text) loads

-- the days that a method leaves of these workdays, newest first
abbrev pub left_by : Result Method Refusal → List ℕ → List ℤ
left_by (Err refusal) loads = []
left_by (Ok k) loads = map (λ (r : Reference). pos r.day) (unstruck k.low k.high (reference_days (workdays loads) k 0 (length loads) 11))

abbrev pub left_after : List ℕ → List ℕ → List ℤ
left_after text loads = left_by (method_or_refusal text) loads
