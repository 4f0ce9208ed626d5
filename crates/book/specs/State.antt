-- A book with the two lists that its calls are handed, its places and its sums.
use Rattle.std.specs.Prelude.{ℕ, ◌+◌, ◌-◌, ◌*◌, Bool, ◌&&◌, ◌||◌, List, length, ℤ, nat_le, nat_lt, slice_index_or}
use Rattle.won.specs.Sums.{total_to}
use Rattle.table.specs.Lines.{ResourceLine, no_line, no_charge, paid_of, fined_of}
use Rattle.table.specs.declared.lines.BuyerLine.{BuyerLine}
use Rattle.book.specs.declared.energies.Energies.{Energies}
use Rattle.book.specs.declared.hour.Hour.{Hour}
use Rattle.book.specs.declared.hour.Hour.TheVariants.{Blank}
use Rattle.book.specs.declared.register.Register.{Register}

-- hour h of resource r has its line at place h × resources + r, of buyer k its charge at h × buyers + k
pub record State : Type 0 where
  pub register : Register
  pub hours : List (Hour Energies)
  pub lines : List ResourceLine
  pub charges : List BuyerLine

-- the hours of the month are numbered from 0, the first of the first day
abbrev pub hours_of : Register → ℕ
hours_of s = s.days * 24

-- a day and an hour of the month
abbrev pub in_month : Register → ℕ → ℕ → Bool
in_month s day hour = (nat_le 1 day && nat_le day s.days) && (nat_le 1 hour && nat_le hour 24)

-- the number of an hour
abbrev pub place : ℕ → ℕ → ℕ
place day hour = (day - 1) * 24 + (hour - 1)

abbrev pub hour_at : State → ℕ → Hour Energies
hour_at b h = slice_index_or b.hours h Blank

abbrev pub line_at : State → ℕ → ℕ → ResourceLine
line_at b h r = slice_index_or b.lines (h * b.register.enrolled + r) no_line

abbrev pub charge_at : State → ℕ → ℕ → BuyerLine
charge_at b h k = slice_index_or b.charges (h * b.register.buyers + k) no_charge

-- the lists lack a place for some line or charge
abbrev pub short_for : Register → List ResourceLine → List BuyerLine → Bool
short_for s lines charges = nat_lt (length lines) (hours_of s * s.enrolled) || nat_lt (length charges) (hours_of s * s.buyers)

-- sums of an hour's lines, and of its charges, in won

abbrev pub paid_in : State → ℕ → ℤ
paid_in b h = total_to b.register.enrolled (λ r. paid_of (line_at b h r))

abbrev pub fined_in : State → ℕ → ℤ
fined_in b h = total_to b.register.enrolled (λ r. fined_of (line_at b h r))

abbrev pub charged_in : State → ℕ → ℤ
charged_in b h = total_to b.register.buyers (λ k. (charge_at b h k).charge)

abbrev pub refunded_in : State → ℕ → ℤ
refunded_in b h = total_to b.register.buyers (λ k. (charge_at b h k).refund)
