-- What the two sorts of lines hold.
use Rattle.std.specs.Prelude.{ℤ, pos, ◌+ℤ◌, Some, None, Option}
use Rattle.settlement.specs.declared.terms.Line.{Line}
use Rattle.table.specs.declared.lines.BuyerLine.{BuyerLine}

-- what stands at the place of a resource in an hour: its line, if it is settled
abbrev pub ResourceLine : Type 0
ResourceLine = Option Line

-- the line of a resource's empty place, and of a buyer's
abbrev pub no_line : ResourceLine
no_line = None

abbrev pub no_charge : BuyerLine
no_charge = record { charge = pos 0; refund = pos 0 }

-- what a resource is paid, for plan and order together
abbrev pub paid_of : ResourceLine → ℤ
paid_of None = pos 0
paid_of (Some line) = line.plan_pay +ℤ line.order_pay

-- what a resource is fined
abbrev pub fined_of : ResourceLine → ℤ
fined_of None = pos 0
fined_of (Some line) = pos line.fined
