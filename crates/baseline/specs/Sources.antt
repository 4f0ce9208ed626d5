-- The meanings of the ranked source, of the filed source and of the adjusting layer.
use Rattle.std.specs.Prelude.{ℕ, ◌+◌, ◌-◌, cond, ◌&&◌, List, length, ℤ, pos, ◌+ℤ◌, ◌-ℤ◌, ◌*ℤ◌, Some, None, Ok, Err, Option, Result, int_le, nat_le, nat_lt, slice_index_or}
use Rattle.std.specs.Int.{int_div_euclid, int_max, int_min}
use Rattle.std.specs.Option.{unwrap_or}
use Rattle.std.specs.Result.{result_ok}
use Rattle.load.specs.Meaning.{LoadMeaning, in_range, is_hour}
use Rattle.load.specs.Records.{at, interval_place, interval_load}
use Rattle.refusal.specs.declared.Cause.{Cause}
use Rattle.refusal.specs.declared.Cause.TheVariants.{MissingLoad, OutOfRange}
use Rattle.baseline.specs.declared.method.Method.{Method}
use Rattle.baseline.specs.Meaning.{SourceMeaning, lowest, highest}
use Rattle.baseline.specs.Profile.{profile_of}

-- a load as a signed number
abbrev pub signed : Result ℕ Cause → Result ℤ Cause
signed (Ok v) = Ok (pos v)
signed (Err cause) = Err cause

-- the ranked source over a record: its loads are metered, and the baseline is the profile of the hour itself
abbrev pub ranked_source : LoadMeaning → Method → SourceMeaning
ranked_source m k = record {
  metered = m.load;
  profile = profile_of m k;
  baseline = λ c d h. signed (profile_of m k c d h h);
}

-- a filed baseline out of bounds counts as missing
abbrev pub admissible : ℤ → Result ℤ Cause
admissible z = cond (int_le lowest z && int_le z highest) (Ok z) (Err MissingLoad)

-- the filed baseline of an hour
abbrev pub filed_baseline : List ℤ → ℕ → ℕ → ℕ → Result ℤ Cause
filed_baseline baselines c d h =
    cond (in_range c d h)
    (cond (nat_lt (interval_place c d h) (length baselines)) (admissible (slice_index_or baselines (interval_place c d h) (pos 0))) (Err MissingLoad))
    (Err OutOfRange)

-- a filed source has no profiles
abbrev pub filed_profile : ℕ → ℕ → ℕ → ℕ → Result ℕ Cause
filed_profile c d h g = cond (in_range c d h && is_hour g) (Err MissingLoad) (Err OutOfRange)

-- baselines and loads in two lists
abbrev pub filed_source : List ℤ → List ℕ → SourceMeaning
filed_source baselines loads = record {
  metered = interval_load loads;
  profile = filed_profile;
  baseline = filed_baseline baselines;
}

-- the hour in which the first order of a day starts, 0 for none
abbrev pub start_on : List ℕ → ℕ → ℕ
start_on starts d = unwrap_or (at starts d) 0

-- the sum of three numbers that all exist
abbrev pub sum_of_three : Option ℕ → Option ℕ → Option ℕ → Option ℕ
sum_of_three None y z = None
sum_of_three (Some x) None z = None
sum_of_three (Some x) (Some y) None = None
sum_of_three (Some x) (Some y) (Some z) = Some (x + y + z)

-- one number less another, if both exist
abbrev pub difference : Option ℕ → Option ℕ → Option ℤ
difference None y = None
difference (Some x) None = None
difference (Some x) (Some y) = Some (pos x -ℤ pos y)

-- the metered sum less the profile sum over the hours s - 4, s - 3 and s - 2, by the days chosen for hour s
abbrev pub gap : SourceMeaning → ℕ → ℕ → ℕ → Option ℤ
gap m c d s =
    difference
    (sum_of_three (m.metered c d (s - 4)) (m.metered c d (s - 3)) (m.metered c d (s - 2)))
    (sum_of_three (result_ok (m.profile c d s (s - 4))) (result_ok (m.profile c d s (s - 3))) (result_ok (m.profile c d s (s - 2))))

-- the gap before the day's first order, if that starts in hour 5 or later
abbrev pub gap_on : SourceMeaning → List ℕ → ℕ → ℕ → Option ℤ
gap_on m starts c d = cond (nat_le 5 (start_on starts d)) (gap m c d (start_on starts d)) None

-- a third, rounded: one half is added, then the fraction goes down, below nought too
abbrev pub rounded_third : ℤ → ℤ
rounded_third z = int_div_euclid (z *ℤ pos 2 +ℤ pos 3) (pos 6)

-- brought within the bounds of a baseline
abbrev pub clamped : ℤ → ℤ
clamped z = int_max lowest (int_min z highest)

-- a baseline with the rounded third of the gap added; without a gap it is as it was
abbrev pub brought_by : ℤ → Option ℤ → ℤ
brought_by b None = b
brought_by b (Some g) = clamped (b +ℤ rounded_third g)

-- a cause passes
abbrev pub adjusted : Result ℤ Cause → Option ℤ → Result ℤ Cause
adjusted (Err cause) g = Err cause
adjusted (Ok b) g = Ok (brought_by b g)

-- the source below, its baselines adjusted to the load before each day's first order; metered loads and profiles pass
abbrev pub adjusted_source : List ℕ → SourceMeaning → SourceMeaning
adjusted_source starts below = record {
  metered = below.metered;
  profile = below.profile;
  baseline = λ c d h. adjusted (below.baseline c d h) (gap_on below starts c d);
}
