-- What a load record answers, and the ranges of its questions.
use Rattle.std.specs.Prelude.{ℕ, Bool, ◌&&◌, Option, nat_le, nat_lt}
use Rattle.load.specs.declared.loads.DayClass.{DayClass}

-- the load in Wh by customer, day and hour; the class of a day; whether a day may be a customer's reference day
pub record LoadMeaning : Type 0 where
  pub load : ℕ → ℕ → ℕ → Option ℕ
  pub class : ℕ → DayClass
  pub stands : ℕ → ℕ → Bool

-- customers are 0 to 15
abbrev pub is_customer : ℕ → Bool
is_customer c = nat_lt c 16

-- days are 0 to 95
abbrev pub is_day : ℕ → Bool
is_day d = nat_lt d 96

-- hours are 1 to 24; hour h ends at h o'clock
abbrev pub is_hour : ℕ → Bool
is_hour h = nat_le 1 h && nat_le h 24

-- customer, day and hour are all in range
abbrev pub in_range : ℕ → ℕ → ℕ → Bool
in_range c d h = is_customer c && (is_day d && is_hour h)
