-- What the readings of a book answer.
use Rattle.std.specs.Prelude.{ℕ, not, List, [], ◌∷◌, ◌++◌, ◌+ℤ◌, Some, None, Ok, Err, Option, Result, nat_lt}
use Rattle.refusal.specs.declared.Refusal.{Refusal}
use Rattle.refusal.specs.declared.Refusal.TheVariants.{NoSuchBuyer, NoLine, HourNotAllotted}
use Rattle.refusal.specs.Tests.{refused_if, first_of}
use Rattle.settlement.specs.declared.terms.Line.{Line}
use Rattle.table.specs.Lines.{ResourceLine}
use Rattle.table.specs.declared.lines.BuyerLine.{BuyerLine}
use Rattle.book.specs.declared.read.LineReading.{LineReading}
use Rattle.book.specs.Hours.{is_allotted}
use Rattle.book.specs.State.{State, place, line_at, charge_at}
use Rattle.book.specs.Calls.{named, place_tests, resource_tests}

-- what a line says: plan, order and six figures; plan pay and order pay are paid together
abbrev pub reading_of : Line → LineReading
reading_of line = record {
  plan = line.plan;
  order = line.order;
  sr = line.sr;
  dr = line.dr;
  dlr = line.dlr;
  slr = line.slr;
  paid = line.plan_pay +ℤ line.order_pay;
  fined = line.fined;
}

abbrev pub line_or : Option Refusal → ResourceLine → Result LineReading Refusal
line_or (Some refusal) line = Err refusal
line_or None None = Err NoLine
line_or None (Some line) = Ok (reading_of line)

-- what a resource's line in an hour says
abbrev pub line_read : State → ℕ → ℕ → ℕ → Result LineReading Refusal
line_read b r day hour = line_or (first_of (resource_tests b r day hour)) (line_at b (place day hour) r)

abbrev pub charge_or : Option Refusal → BuyerLine → Result BuyerLine Refusal
charge_or (Some refusal) line = Err refusal
charge_or None line = Ok line

-- what the reading of a charge is tested for
abbrev pub charge_tests : State → ℕ → ℕ → ℕ → List (Option Refusal)
charge_tests b k day hour =
    place_tests b day hour ++ (refused_if (not (nat_lt k b.register.buyers)) NoSuchBuyer
    ∷ refused_if (not (is_allotted (named b day hour))) HourNotAllotted
    ∷ [])

-- a buyer's charge and refund in an allotted hour
abbrev pub charge_read : State → ℕ → ℕ → ℕ → Result BuyerLine Refusal
charge_read b k day hour = charge_or (first_of (charge_tests b k day hour)) (charge_at b (place day hour) k)
