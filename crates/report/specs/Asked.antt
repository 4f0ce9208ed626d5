-- What a text asks for, line by line.
use Rattle.std.specs.Prelude.{◌≡◌, ℕ, suc, Bool, true, false, cond, List, [], ◌∷◌, drop, replicate, Some, None, Ok, Err, Option, Result, ◌==◌}
use Rattle.report.specs.declared.fault.BadLine.{BadLine}
use Rattle.report.specs.declared.fault.Fault.{Fault}
use Rattle.report.specs.declared.fault.Fault.TheVariants.{LoadsAndReadings, NoDay}
use Rattle.report.specs.declared.hour.Purchases.{Purchases}
use Rattle.report.specs.declared.hour.Settling.{Settling}
use Rattle.report.specs.declared.meter.Meter.{Meter}
use Rattle.report.specs.declared.meter.Meter.TheVariants.{Loads, Readings}
use Rattle.report.specs.declared.word.Word.{Word}
use Rattle.report.specs.declared.word.Word.TheVariants.{Day, Customers, Workday, Holiday, LeftOut, Start, Load, Reading, Settle, Energy}
use Rattle.report.specs.Lines.{only_number, days_marked, start_marked, written, place_in, settling_in, purchases_in}
use Rattle.report.specs.Numbers.{numbers_in}
use Rattle.report.specs.Pieces.{lines_of, word_of, fields_of}
use Rattle.report.specs.Words.{word_named}

-- the day, how many customers, a byte for each day by class, left out and start of the first order, and what the meters read; the hour to be settled, and what the buyers purchased in it
pub record Asked : Type 0 where
  pub day : Option ℕ
  pub customers : ℕ
  pub classes : List ℕ
  pub left_out : List ℕ
  pub starts : List ℕ
  pub meter : Option Meter
  pub numbers : List ℕ
  pub settling : Option Settling
  pub purchases : Option Purchases

-- a place for each reading of 16 customers, with a number that counts as missing
unfoldable pub unread : List ℕ
unread = replicate 36880 4294967295

-- before the first line: one customer, and no day of a class
abbrev pub nothing_asked : Asked
nothing_asked = record { day = None; customers = 1; classes = replicate 96 2; left_out = replicate 96 0; starts = replicate 96 0; meter = None; numbers = unread; settling = None; purchases = None }

-- what is said by what was read, or the fault
abbrev pub said : {X : Type 0} → (X → Asked) → Result X Fault → Result Asked Fault
said f (Ok x) = Ok (f x)
said f (Err fault) = Err fault

-- loads behind readings, or readings behind loads
abbrev pub mixed : Option Meter → Meter → Bool
mixed None m = false
mixed (Some Loads) Loads = false
mixed (Some Loads) Readings = true
mixed (Some Readings) Loads = true
mixed (Some Readings) Readings = false

abbrev pub metered_by : Meter → List ℕ → Asked → Result Asked Fault
metered_by m ns a =
    cond (mixed a.meter m) (Err LoadsAndReadings) (said (λ place. record a { meter = Some m; numbers = written place (drop 3 ns) a.numbers }) (place_in m ns))

-- what a line leaves: what was asked with what it says, or its fault and all as it was
abbrev pub Leaves : {U : Type 0} → Result U Fault → Result Asked Fault → Asked → Asked → Type 0
Leaves (Ok u) whole entry exit = whole ≡ Ok exit
Leaves (Err fault) whole entry exit = (whole ≡ Err fault) × (exit ≡ entry)

-- what a word and its numbers do
abbrev pub after_word : Word → List ℕ → Asked → Result Asked Fault
after_word Day ns a = said (λ d. record a { day = Some d }) (only_number ns 0 95)
after_word Customers ns a = said (λ n. record a { customers = n }) (only_number ns 1 16)
after_word Workday ns a = said (λ table. record a { classes = table }) (days_marked 0 ns a.classes)
after_word Holiday ns a = said (λ table. record a { classes = table }) (days_marked 1 ns a.classes)
after_word LeftOut ns a = said (λ table. record a { left_out = table }) (days_marked 1 ns a.left_out)
after_word Start ns a = said (λ table. record a { starts = table }) (start_marked ns a.starts)
after_word Load ns a = metered_by Loads ns a
after_word Reading ns a = metered_by Readings ns a
after_word Settle ns a = said (λ s. record a { settling = Some s }) (settling_in ns)
after_word Energy ns a = said (λ p. record a { purchases = Some p }) (purchases_in ns)

-- the numbers are read before the word is looked at
abbrev pub after_fields : Result (List ℕ) Fault → Result Word Fault → Asked → Result Asked Fault
after_fields (Err fault) w a = Err fault
after_fields (Ok ns) (Err fault) a = Err fault
after_fields (Ok ns) (Ok w) a = after_word w ns a

-- an empty line, and one that begins with #, is passed over
abbrev pub passed_over : List ℕ → Bool
passed_over [] = true
passed_over (b ∷ bs) = b == 35

abbrev pub after_line : List ℕ → Asked → Result Asked Fault
after_line line a = cond (passed_over line) (Ok a) (after_fields (numbers_in (fields_of line)) (word_named (word_of line)) a)

-- a fault is told with the line's number
abbrev pub at_line : ℕ → Result Asked Fault → Result Asked BadLine
at_line k (Ok a) = Ok a
at_line k (Err fault) = Err (record { line = k; fault = fault })

-- one line more; the first bad line ends it
abbrev pub with_line : ℕ → Result Asked BadLine → List ℕ → Result Asked BadLine
with_line k (Err bad) line = Err bad
with_line k (Ok a) line = at_line k (after_line line a)

-- a text names a day
abbrev pub day_named : ℕ → Option ℕ → Asked → Result Asked BadLine
day_named k None a = Err (record { line = k; fault = NoDay })
day_named k (Some d) a = Ok a

abbrev pub at_end : ℕ → Result Asked BadLine → Result Asked BadLine
at_end k (Err bad) = Err bad
at_end k (Ok a) = day_named k a.day a

-- the lines behind the first k
abbrev pub lines_read : ℕ → Result Asked BadLine → List (List ℕ) → Result Asked BadLine
lines_read k r [] = at_end k r
lines_read k r (line ∷ lines) = lines_read (suc k) (with_line (suc k) r line) lines

-- what is asked for with the lines of a text, or its first bad line
abbrev pub read_from : Asked → List ℕ → Result Asked BadLine
read_from a text = lines_read 0 (Ok a) (lines_of text)

-- the lines of a text have been read, or its first bad line found
abbrev pub Reads : {U : Type 0} → Result U BadLine → Result Asked BadLine → Asked → Type 0
Reads (Ok u) whole exit = whole ≡ Ok exit
Reads (Err bad) whole exit = whole ≡ Err bad
