-- The hours in which a resource takes orders.
use Rattle.std.specs.Prelude.{ℕ, Bool, false, not, ◌&&◌, ◌||◌, ◌==◌, nat_le}
use Rattle.load.specs.declared.loads.DayClass.{DayClass}
use Rattle.load.specs.declared.loads.DayClass.TheVariants.{Workday, Holiday, Neither}
use Rattle.settlement.specs.declared.terms.Kind.{Kind}
use Rattle.settlement.specs.declared.terms.Kind.TheVariants.{Standard, SmallMedium, StandardHoliday, SmallMediumHoliday}

-- from low to high, both counted
abbrev pub from_to : ℕ → ℕ → ℕ → Bool
from_to low high n = nat_le low n && nat_le n high

-- on workdays 10 to 20 without 13
abbrev pub workday_hours : DayClass → ℕ → Bool
workday_hours Workday hour = from_to 10 20 hour && not (hour == 13)
workday_hours Holiday hour = false
workday_hours Neither hour = false

-- on holidays 11 to 17, in the months 3, 4, 5, 9, 10 and 11
abbrev pub holiday_hours : DayClass → ℕ → ℕ → Bool
holiday_hours Workday month hour = false
holiday_hours Holiday month hour = (from_to 3 5 month || from_to 9 11 month) && from_to 11 17 hour
holiday_hours Neither month hour = false

-- whether a resource of a kind takes an order on a day of a class, in a month, in an hour
abbrev pub takes_order : Kind → DayClass → ℕ → ℕ → Bool
takes_order Standard class month hour = workday_hours class hour
takes_order SmallMedium class month hour = workday_hours class hour
takes_order StandardHoliday class month hour = holiday_hours class month hour
takes_order SmallMediumHoliday class month hour = holiday_hours class month hour
