-- The columns of a sheet, and that they balance.
use Rattle.std.specs.Prelude.{◌≡◌, ℕ, cond, List, [], ◌∷◌, ℤ, pos, ◌+ℤ◌, ◌-ℤ◌, ◌==◌}
use Rattle.book.specs.State.{State}
use Rattle.book.specs.Calls.{Call}
use Rattle.book.specs.Opening.{Opening}
use Rattle.book.specs.Reconciled.{Run}
use Rattle.sheet.specs.declared.entry.Key.{Key}
use Rattle.sheet.specs.declared.entry.Key.TheVariants.{Book, Month, Allotted, Correcting, Resource, Aggregator, Paid, Fined, Payer, Charged, Refunded}
use Rattle.sheet.specs.declared.entry.Entry.{Entry}
use Rattle.sheet.specs.Evening.{sheet_entries}

-- the keys by their order in the sheet
abbrev pub order_of : Key → ℕ
order_of Book = 0
order_of Month = 1
order_of Allotted = 2
order_of Correcting = 3
order_of Resource = 4
order_of Aggregator = 5
order_of Paid = 6
order_of Fined = 7
order_of Payer = 8
order_of Charged = 9
order_of Refunded = 10

-- what the entries under a key add up to
abbrev pub column : Key → List Entry → ℤ
column key [] = pos 0
column key (e ∷ es) = cond (order_of key == order_of e.key) e.number (pos 0) +ℤ column key es

-- what is charged less what is refunded is what is paid less what is fined, and what is charged is what is paid
pub record Balances (entries : List Entry) : Type 0 where
  pub net : column Charged entries -ℤ column Refunded entries ≡ column Paid entries -ℤ column Fined entries
  pub gross : column Charged entries ≡ column Paid entries

-- whatever opening and whatever calls led to this book, its sheet's columns balance
abbrev pub BalancedSheet : State → Type 0
BalancedSheet b = (o : Opening) (unopened : State) (calls : List Call) → Run b o unopened calls → Balances (sheet_entries b)
