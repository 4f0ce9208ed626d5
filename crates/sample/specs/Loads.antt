-- The loads of the sample month's customer, in a list that goes day by day and hour by hour.
use Rattle.std.specs.Prelude.{ℕ, ◌/◌, ◌%◌, ◌&&◌, ◌==◌, cond, nat_lt}

-- hour 11 of days 0 to 4
abbrev pub reference_at : ℕ → ℕ
reference_at place = cond (nat_lt (place / 24) 5 && (place % 24 == 10)) 2000000 0

-- and what was metered in hour 11 of day 5
abbrev pub load_at : ℕ → ℕ → ℕ
load_at metered place = cond (place == 130) metered (reference_at place)
