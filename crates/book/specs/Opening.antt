-- Opening a book: what it is tested for, and what it leaves.
use Rattle.std.specs.Prelude.{ℕ, ◌*◌, Bool, cond, not, ◌&&◌, ◌||◌, List, [], ◌∷◌, length, replicate, Some, None, Option, ◌==◌, nat_lt, slice_index, slice_index_or}
use Rattle.std.specs.List.{list_all}
use Rattle.refusal.specs.declared.Refusal.{Refusal}
use Rattle.refusal.specs.declared.Refusal.TheVariants.{BadMonth, BadClasses, BadFirstDay, ResourceCount, BadResource, BuyerCount, AlreadyOpened, ShortLists}
use Rattle.refusal.specs.Tests.{refused_if, first_of}
use Rattle.settlement.specs.declared.terms.Kind.{Kind}
use Rattle.settlement.specs.declared.terms.Kind.TheVariants.{Standard}
use Rattle.settlement.specs.Hours.{from_to}
use Rattle.settlement.specs.Kinds.{kind_numbered}
use Rattle.table.specs.Lines.{no_line, no_charge}
use Rattle.table.specs.Tables.{filled}
use Rattle.book.specs.declared.hour.Hour.TheVariants.{Blank}
use Rattle.book.specs.declared.register.Register.{Register}
use Rattle.book.specs.declared.register.Registration.{Registration}
use Rattle.book.specs.declared.register.Resource.{Resource}
use Rattle.book.specs.State.{State, hours_of, short_for}
use Rattle.book.specs.Calls.{no_resource}

-- what a book is opened with
pub record Opening : Type 0 where
  pub number : ℕ
  pub month : ℕ
  pub classes : List ℕ
  pub first_day : ℕ
  pub buyers : ℕ
  pub resources : List Registration

-- a month can have so many days: February 28 or 29
abbrev pub month_has : ℕ → ℕ → Bool
month_has month days =
    cond (month == 2) (days == 28 || days == 29)
    (cond ((month == 4 || month == 6) || (month == 9 || month == 11)) (days == 30) (days == 31))

-- each day is a workday, 0, or a holiday, 1
abbrev pub plain_classes : List ℕ → Bool
plain_classes classes = list_all (λ class. nat_lt class 2) classes

abbrev pub no_registration : Registration
no_registration = record { kind = 0; aggregator = 0; customers = 0 }

-- a kind 1 to 4, customers 1 to 16, an aggregator 1 to 99
abbrev pub sound_resource : Registration → Bool
sound_resource r = from_to 1 4 r.kind && (from_to 1 16 r.customers && from_to 1 99 r.aggregator)

abbrev pub sound_resources : List Registration → Bool
sound_resources rs = list_all sound_resource rs

-- what a book keeps of a resource
abbrev pub kind_or_standard : Option Kind → Kind
kind_or_standard None = Standard
kind_or_standard (Some kind) = kind

abbrev pub resource_of : Registration → Resource
resource_of r = record { kind = kind_or_standard (kind_numbered r.kind); aggregator = r.aggregator; customers = r.customers }

-- what a book keeps of its opening: 31 places for day classes and 16 for resources, entered from the first on
abbrev pub register_of : Opening → Register
register_of o = record {
  number = o.number;
  month = o.month;
  days = length o.classes;
  classes = filled (replicate 31 0) 0 (length o.classes) (λ d. slice_index o.classes d);
  first_day = o.first_day;
  resources = filled (replicate 16 no_resource) 0 (length o.resources) (λ i. resource_of (slice_index_or o.resources i no_registration));
  enrolled = length o.resources;
  buyers = o.buyers;
}

-- the register with other resources
abbrev pub with_resources : Register → List Resource → Register
with_resources s resources = record {
  number = s.number;
  month = s.month;
  days = s.days;
  classes = s.classes;
  first_day = s.first_day;
  resources = resources;
  enrolled = s.enrolled;
  buyers = s.buyers;
}

-- a book is opened exactly if its month is not 0
abbrev pub is_opened : Register → Bool
is_opened s = not (s.month == 0)

-- what an opening is tested for, in this order
abbrev pub opening_tests : Opening → State → List (Option Refusal)
opening_tests o b =
    refused_if (is_opened b.register) AlreadyOpened
    ∷ refused_if (not (from_to 1 12 o.month)) BadMonth
    ∷ refused_if (not (month_has o.month (length o.classes) && plain_classes o.classes)) BadClasses
    ∷ refused_if (nat_lt 64 o.first_day) BadFirstDay
    ∷ refused_if (not (from_to 1 16 (length o.resources))) ResourceCount
    ∷ refused_if (not (sound_resources o.resources)) BadResource
    ∷ refused_if (not (from_to 1 8 o.buyers)) BuyerCount
    ∷ refused_if (short_for (register_of o) b.lines b.charges) ShortLists
    ∷ []

abbrev pub opening_refusal : Opening → State → Option Refusal
opening_refusal o b = first_of (opening_tests o b)

-- a book just opened: all hours are open and empty, and the lists are cleared within the measure
abbrev pub opened : Opening → State → State
opened o b = record {
  register = register_of o;
  hours = replicate 744 Blank;
  lines = filled b.lines 0 (hours_of (register_of o) * length o.resources) (λ _. no_line);
  charges = filled b.charges 0 (hours_of (register_of o) * o.buyers) (λ _. no_charge);
}

-- the state after an opening; a refused one changes nothing
abbrev pub opening_by : Option Refusal → Opening → State → State
opening_by None o b = opened o b
opening_by (Some refusal) o b = b

abbrev pub after_opening : Opening → State → State
after_opening o b = opening_by (opening_refusal o b) o b

-- a book not yet opened
abbrev pub blank_register : Register
blank_register = record {
  number = 0;
  month = 0;
  days = 0;
  classes = replicate 31 0;
  first_day = 0;
  resources = replicate 16 no_resource;
  enrolled = 0;
  buyers = 0;
}
