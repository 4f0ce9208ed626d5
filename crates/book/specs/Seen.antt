-- The values of the code as the definitions see them.
use Rattle.std.specs.Prelude.{ℕ, false, List, Some, None, Ok, Err, Option, Result}
use Rattle.refusal.specs.declared.Refusal.{Refusal}
use Rattle.baseline.specs.Meaning.{SourceMeaning}
use Rattle.table.specs.Lines.{ResourceLine}
use Rattle.table.specs.declared.lines.BuyerLine.{BuyerLine}
use Rattle.book.specs.declared.book.Book.{Book}
use Rattle.book.specs.declared.open.Opening as code
use Rattle.book.specs.declared.settle.Settling as asked
use Rattle.book.specs.declared.slip.Slip as handed
use Rattle.book.specs.declared.month_hour.HourNumber.{HourNumber}
use Rattle.book.specs.declared.slip.RefusedSlip.{RefusedSlip}
use Rattle.book.specs.State.{State}
use Rattle.book.specs.Calls.{Slip, Settling}
use Rattle.book.specs.Opening.{Opening}

-- a book and the two lists lent to a call, as one
abbrev pub seen : Book → List ResourceLine → List BuyerLine → State
seen b lines charges = record { register = b.register; hours = b.hours; lines = lines; charges = charges }

-- what a slip says
abbrev pub named_by : handed.Slip → Slip
named_by slip = record { number = slip.number; day = slip.at.day; hour = slip.at.hour }

-- a slip as it is handed out
abbrev pub fresh : ℕ → ℕ → ℕ → handed.Slip
fresh number day hour = record { number = number; at = record { day = day; hour = hour }; spent = false }

-- what is granted, unless refused
abbrev pub granted_or : {X : Type 0} → Option Refusal → X → Result X Refusal
granted_or None x = Ok x
granted_or (Some refusal) x = Err refusal

-- an hour's number, or why it is refused
abbrev pub number_or : Result HourNumber Refusal → Result ℕ Refusal
number_or (Ok h) = Ok h.number
number_or (Err refusal) = Err refusal

-- a refusal hands the slip back
abbrev pub back_or : Option Refusal → handed.Slip → Result (Unit {0}) RefusedSlip
back_or None slip = Ok tt
back_or (Some refusal) slip = Err (record { refusal = refusal; slip = slip })

-- what an opening says
abbrev pub told_by : code.Opening → Opening
told_by o = record { number = o.number; month = o.month; classes = o.classes.now; first_day = o.first_day; buyers = o.buyers; resources = o.resources.now }

-- what a settling asks, by the meanings of its sources
abbrev pub asked_by : {S M : Type 0} → (S → SourceMeaning) → (M → SourceMeaning) → asked.Settling S M → Settling
asked_by scheduled mandatory q = record {
  resource = q.resource;
  day = q.at.day;
  hour = q.at.hour;
  terms = q.terms;
  marks = q.marks.now;
  scheduled = scheduled q.scheduled.now;
  mandatory = mandatory q.mandatory.now;
}
