-- The six calls on a book: what each is tested for, what it changes, and what it answers.
use Rattle.std.specs.Prelude.{ℕ, ◌+◌, ◌-◌, ◌*◌, Bool, true, false, cond, not, ◌&&◌, List, [], ◌∷◌, ◌++◌, ℤ, Some, None, Ok, Err, Option, Result, ◌==◌, nat_lt, slice_index, slice_index_or, slice_set}
use Rattle.refusal.specs.declared.Refusal.{Refusal}
use Rattle.refusal.specs.declared.Refusal.TheVariants.{ShortLists, NoSuchHour, NoSuchResource, HourAllotted, WrongSlip, NoLine}
use Rattle.refusal.specs.Tests.{refused_if, first_of}
use Rattle.load.specs.declared.loads.DayClass.{DayClass}
use Rattle.load.specs.declared.loads.DayClass.TheVariants.{Workday, Holiday}
use Rattle.baseline.specs.Meaning.{SourceMeaning}
use Rattle.settlement.specs.declared.terms.Kind.TheVariants.{Standard}
use Rattle.settlement.specs.declared.terms.Line.{Line}
use Rattle.settlement.specs.declared.terms.Portfolio.{Portfolio}
use Rattle.settlement.specs.declared.terms.Slot.{Slot}
use Rattle.settlement.specs.declared.terms.Terms.{Terms}
use Rattle.settlement.specs.Settle.{settled}
use Rattle.share.specs.Shares.{share}
use Rattle.table.specs.Lines.{ResourceLine, no_charge}
use Rattle.table.specs.declared.lines.BuyerLine.{BuyerLine}
use Rattle.table.specs.Tables.{filled}
use Rattle.book.specs.declared.energies.Energies.{Energies}
use Rattle.book.specs.declared.hour.Hour.{Hour}
use Rattle.book.specs.declared.hour.Step.TheVariants.{Allot, Reopen, Finish}
use Rattle.book.specs.declared.register.Register.{Register}
use Rattle.book.specs.declared.register.Resource.{Resource}
use Rattle.book.specs.Hours.{is_allotted, energies_in, told_anew, as_allotted, as_correcting, step_tests}
use Rattle.book.specs.State.{State, in_month, place, hour_at, line_at, short_for, paid_in, fined_in}
use Rattle.book.specs.Telling.{energies_tests, energies_of}

-- a settling names its hour and all that its line depends on; of the two sources it holds their meanings
pub record Settling : Type 0 where
  pub resource : ℕ
  pub day : ℕ
  pub hour : ℕ
  pub terms : Terms
  pub marks : List ℕ
  pub scheduled : SourceMeaning
  pub mandatory : SourceMeaning

-- a correction slip names the book and the hour that it is for
pub record Slip : Type 0 where
  pub number : ℕ
  pub day : ℕ
  pub hour : ℕ

pub data Call : Type 0 where
  -- day, hour, total and the purchases of the buyers but the retailer
  tell : ℕ → ℕ → ℕ → List ℕ → Call
  settle : Settling → Call
  -- resource, day and hour
  withdraw : ℕ → ℕ → ℕ → Call
  -- day and hour
  allot : ℕ → ℕ → Call
  reopen : ℕ → ℕ → Call
  finish : Slip → Call

-- the line of a settling

abbrev pub no_resource : Resource
no_resource = record { kind = Standard; aggregator = 0; customers = 0 }

abbrev pub portfolio_of : Resource → Portfolio
portfolio_of r = record { kind = r.kind; customers = r.customers }

-- a day's class is 0 for a workday, 1 for a holiday
abbrev pub class_of : ℕ → DayClass
class_of n = cond (n == 0) Workday Holiday

-- an hour of the month; the days follow the first one's day in the sources
abbrev pub slot_of : Register → ℕ → ℕ → Slot
slot_of s day hour = record { month = s.month; class = class_of (slice_index s.classes (day - 1)); day = s.first_day + (day - 1); hour = hour }

-- the line of a settling, or why there is none
abbrev pub reckon : Register → Settling → Result Line Refusal
reckon s q = settled q.scheduled q.mandatory q.marks (portfolio_of (slice_index_or s.resources q.resource no_resource)) (slot_of s q.day q.hour) q.terms

abbrev pub failure : Result Line Refusal → Option Refusal
failure (Ok line) = None
failure (Err refusal) = Some refusal

abbrev pub reckoned : Result Line Refusal → ResourceLine
reckoned (Ok line) = Some line
reckoned (Err refusal) = None

-- refusals, in their order

abbrev pub named : State → ℕ → ℕ → Hour Energies
named b day hour = hour_at b (place day hour)

abbrev pub is_empty : ResourceLine → Bool
is_empty None = true
is_empty (Some line) = false

-- the lists are measured before anything else
abbrev pub measured : State → Option Refusal
measured b = refused_if (short_for b.register b.lines b.charges) ShortLists

-- what a call on an hour is tested for first
abbrev pub place_tests : State → ℕ → ℕ → List (Option Refusal)
place_tests b day hour = measured b ∷ refused_if (not (in_month b.register day hour)) NoSuchHour ∷ []

-- what the reading of a line is tested for first
abbrev pub resource_tests : State → ℕ → ℕ → ℕ → List (Option Refusal)
resource_tests b r day hour = place_tests b day hour ++ (refused_if (not (nat_lt r b.register.enrolled)) NoSuchResource ∷ [])

-- what telling is tested for first
abbrev pub hour_tests : State → ℕ → ℕ → List (Option Refusal)
hour_tests b day hour = place_tests b day hour ++ (refused_if (is_allotted (named b day hour)) HourAllotted ∷ [])

-- what the change of a line is tested for first
abbrev pub line_tests : State → ℕ → ℕ → ℕ → List (Option Refusal)
line_tests b r day hour = resource_tests b r day hour ++ (refused_if (is_allotted (named b day hour)) HourAllotted ∷ [])

-- a slip is of this book, and its hour of this month
abbrev pub of_book : Register → Slip → Bool
of_book s slip = slip.number == s.number && in_month s slip.day slip.hour

-- what a slip is tested for first
abbrev pub slip_tests : State → Slip → List (Option Refusal)
slip_tests b slip = measured b ∷ refused_if (not (of_book b.register slip)) WrongSlip ∷ []

-- what each call is tested for
abbrev pub tests : Call → State → List (Option Refusal)
tests (tell day hour total others) b = hour_tests b day hour ++ energies_tests b.register.buyers total others
tests (settle q) b = line_tests b q.resource q.day q.hour ++ (failure (reckon b.register q) ∷ [])
tests (withdraw r day hour) b = line_tests b r day hour ++ (refused_if (is_empty (line_at b (place day hour) r)) NoLine ∷ [])
tests (allot day hour) b = place_tests b day hour ++ step_tests Allot (named b day hour)
tests (reopen day hour) b = place_tests b day hour ++ step_tests Reopen (named b day hour)
tests (finish slip) b = slip_tests b slip ++ step_tests Finish (named b slip.day slip.hour)

abbrev pub refusal : Call → State → Option Refusal
refusal c b = first_of (tests c b)

-- what a call changes if it is not refused

-- other energies told for hour h
abbrev pub with_energies : State → ℕ → Energies → State
with_energies b h e = record {
  register = b.register;
  hours = slice_set b.hours h (told_anew (hour_at b h) e);
  lines = b.lines;
  charges = b.charges;
}

-- another state of hour h
abbrev pub with_hour : State → ℕ → Hour Energies → State
with_hour b h hour = record { register = b.register; hours = slice_set b.hours h hour; lines = b.lines; charges = b.charges }

-- another line of resource r in hour h
abbrev pub with_line : State → ℕ → ℕ → ResourceLine → State
with_line b h r line = record {
  register = b.register;
  hours = b.hours;
  lines = slice_set b.lines (h * b.register.enrolled + r) line;
  charges = b.charges;
}

-- another state of hour h, and other charges
abbrev pub with_row : State → ℕ → Hour Energies → (ℕ → BuyerLine) → State
with_row b h hour row = record {
  register = b.register;
  hours = slice_set b.hours h hour;
  lines = b.lines;
  charges = filled b.charges (h * b.register.buyers) b.register.buyers row;
}

-- buyer k's shares of what is paid and of what is fined, by the purchases
abbrev pub charges_of : ℤ → ℤ → List ℕ → ℕ → BuyerLine
charges_of paid fined purchases k = record { charge = share paid purchases k; refund = share fined purchases k }

abbrev pub purchases_in : Option Energies → List ℕ
purchases_in None = []
purchases_in (Some e) = e.purchases

-- hour h allotted: its buyers are charged what its lines are paid, and refunded what they are fined
abbrev pub allotted : State → ℕ → State
allotted b h = with_row b h (as_allotted (hour_at b h)) (charges_of (paid_in b h) (fined_in b h) (purchases_in (energies_in (hour_at b h))))

-- hour h in correction, without charges
abbrev pub reopened : State → ℕ → State
reopened b h = with_row b h (as_correcting (hour_at b h)) (λ _. no_charge)

abbrev pub effect : Call → State → State
effect (tell day hour total others) b = with_energies b (place day hour) (energies_of total others)
effect (settle q) b = with_line b (place q.day q.hour) q.resource (reckoned (reckon b.register q))
effect (withdraw r day hour) b = with_line b (place day hour) r None
effect (allot day hour) b = allotted b (place day hour)
effect (reopen day hour) b = reopened b (place day hour)
effect (finish slip) b = allotted b (place slip.day slip.hour)

-- a call's answer, and the state after it; a refused call changes nothing

pub data Answer : Type 0 where
  Done : Answer
  Handed : Slip → Answer
  Refused : Refusal → Answer

-- the slip of this book for an hour
abbrev pub slip_for : Register → ℕ → ℕ → Slip
slip_for s day hour = record { number = s.number; day = day; hour = hour }

abbrev pub granted : Call → Register → Answer
granted (tell day hour total others) s = Done
granted (settle q) s = Done
granted (withdraw r day hour) s = Done
granted (allot day hour) s = Done
granted (reopen day hour) s = Handed (slip_for s day hour)
granted (finish slip) s = Done

abbrev pub answer_by : Option Refusal → Call → Register → Answer
answer_by None c s = granted c s
answer_by (Some refusal) c s = Refused refusal

abbrev pub state_by : Option Refusal → Call → State → State
state_by None c b = effect c b
state_by (Some refusal) c b = b

abbrev pub step : Call → State → Answer × State
step c b = (answer_by (refusal c b) c b.register, state_by (refusal c b) c b)

-- the state after a list of calls, the newest first
abbrev pub after : State → List Call → State
after b [] = b
after b (c ∷ cs) = (step c (after b cs)).1
