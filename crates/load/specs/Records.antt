-- The meanings of the two records at the bottom and of the left-out layer.
use Rattle.std.specs.Prelude.{ℕ, ◌+◌, ◌-◌, ◌*◌, ◌%◌, Bool, false, cond, not, ◌&&◌, List, length, Some, None, Option, ◌==◌, nat_le, nat_lt, slice_index}
use Rattle.load.specs.declared.loads.DayClass.{DayClass}
use Rattle.load.specs.declared.loads.DayClass.TheVariants.{Workday, Holiday, Neither}
use Rattle.load.specs.Meaning.{LoadMeaning, is_customer, is_day, in_range}

-- the number at a place of a list, or none past its end
abbrev pub at : List ℕ → ℕ → Option ℕ
at xs i = cond (nat_lt i (length xs)) (Some (slice_index xs i)) None

-- a load above 20,000,000 Wh is missing
abbrev pub plausible : Option ℕ → Option ℕ
plausible None = None
plausible (Some load) = cond (nat_le load 20000000) (Some load) None

-- what a list gives where customer, day and hour are in range, if it is plausible
abbrev pub within_range : (ℕ → ℕ → ℕ → Option ℕ) → ℕ → ℕ → ℕ → Option ℕ
within_range given c d h = cond (in_range c d h) (plausible (given c d h)) None

-- where an hour's number lies in a list that goes customer by customer, day by day and hour by hour
abbrev pub interval_place : ℕ → ℕ → ℕ → ℕ
interval_place c d h = (c * 96 + d) * 24 + h - 1

-- the load in such a list
abbrev pub interval_load : List ℕ → ℕ → ℕ → ℕ → Option ℕ
interval_load loads = within_range (λ c d h. at loads (interval_place c d h))

-- where the reading at the end of an hour lies; the reading before it lies one place earlier
abbrev pub register_place : ℕ → ℕ → ℕ → ℕ
register_place c d h = c * 2305 + d * 24 + h

-- what a register that goes round at 1,000,000,000 Wh counted between two readings below that
abbrev pub counted : Option ℕ → Option ℕ → Option ℕ
counted None after = None
counted (Some before) None = None
counted (Some before) (Some after) =
    cond (nat_lt before 1000000000 && nat_lt after 1000000000) (Some ((after + 1000000000 - before) % 1000000000)) None

-- the load between two readings
abbrev pub register_load : List ℕ → ℕ → ℕ → ℕ → Option ℕ
register_load readings =
    within_range (λ c d h. counted (at readings (register_place c d h - 1)) (at readings (register_place c d h)))

-- byte 0 is a workday, byte 1 a holiday, any other or none is neither
abbrev pub class_of : Option ℕ → DayClass
class_of None = Neither
class_of (Some byte) = cond (byte == 0) Workday (cond (byte == 1) Holiday Neither)

-- a record with a byte for the class of each day; all days in range stand
abbrev pub record_of : (ℕ → ℕ → ℕ → Option ℕ) → List ℕ → LoadMeaning
record_of loads classes = record {
  load = loads;
  class = λ d. cond (is_day d) (class_of (at classes d)) Neither;
  stands = λ c d. is_customer c && is_day d;
}

-- hourly loads in a list
abbrev pub interval_record : List ℕ → List ℕ → LoadMeaning
interval_record loads classes = record_of (interval_load loads) classes

-- register readings in a list
abbrev pub register_record : List ℕ → List ℕ → LoadMeaning
register_record readings classes = record_of (register_load readings) classes

-- byte 1 leaves a day out; any other or none does not
abbrev pub is_left_out : Option ℕ → Bool
is_left_out None = false
is_left_out (Some byte) = byte == 1

-- the record below, with the marked days not standing; all else passes
abbrev pub without : List ℕ → LoadMeaning → LoadMeaning
without marks below = record {
  load = below.load;
  class = below.class;
  stands = λ c d. below.stands c d && not (is_left_out (at marks d));
}
