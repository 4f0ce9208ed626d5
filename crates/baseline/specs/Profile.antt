-- The profile of a customer: the rounded mean load of the days that are left of the reference days.
use Rattle.std.specs.Prelude.{ℕ, ◌+◌, ◌*◌, ◌/◌, cond, ◌&&◌, List, [], ◌∷◌, length, Some, None, Ok, Err, Option, Result, nat_lt}
use Rattle.load.specs.Meaning.{LoadMeaning, in_range, is_hour}
use Rattle.refusal.specs.declared.Cause.{Cause}
use Rattle.refusal.specs.declared.Cause.TheVariants.{TooFewDays, MissingLoad, OutOfRange}
use Rattle.baseline.specs.declared.method.Method.{Method}
use Rattle.baseline.specs.declared.reference.Reference.{Reference}
use Rattle.baseline.specs.Reference.{reference_days}
use Rattle.baseline.specs.Striking.{unstruck}

-- a sum that is missing if a part is
abbrev pub plus : Option ℕ → Option ℕ → Option ℕ
plus None t = None
plus (Some v) None = None
plus (Some v) (Some t) = Some (v + t)

-- the loads of the days in hour g, added up
abbrev pub total_load : LoadMeaning → ℕ → ℕ → List Reference → Option ℕ
total_load m c g [] = Some 0
total_load m c g (r ∷ rs) = plus (m.load c r.day g) (total_load m c g rs)

-- rounded: one half is added to the mean, and the fraction dropped
abbrev pub rounded_mean : ℕ → ℕ → ℕ
rounded_mean sum count = (2 * sum + count) / (2 * count)

abbrev pub mean_or_cause : Option ℕ → ℕ → Result ℕ Cause
mean_or_cause None count = Err MissingLoad
mean_or_cause (Some sum) count = Ok (rounded_mean sum count)

-- the rounded mean of the days' loads in hour g
abbrev pub mean_load : LoadMeaning → ℕ → ℕ → List Reference → Result ℕ Cause
mean_load m c g days = mean_or_cause (total_load m c g days) (length days)

-- the mean in hour g over the days that are left of the reference days
abbrev pub profile_from : LoadMeaning → Method → ℕ → ℕ → List Reference → Result ℕ Cause
profile_from m k c g days = cond (nat_lt (length days) k.n) (Err TooFewDays) (mean_load m c g (unstruck k.low k.high days))

-- the mean in hour g over the days chosen for hour h
abbrev pub profile_of : LoadMeaning → Method → ℕ → ℕ → ℕ → ℕ → Result ℕ Cause
profile_of m k c d h g = cond (in_range c d h && is_hour g) (profile_from m k c g (reference_days m k c d h)) (Err OutOfRange)
