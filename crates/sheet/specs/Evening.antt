-- The entries of the evening sheet of a book.
use Rattle.std.specs.Prelude.{ℕ, zero, suc, ◌+◌, Bool, cond, List, [], ◌∷◌, ◌++◌, ℤ, pos, slice_index_or}
use Rattle.won.specs.Sums.{total_to}
use Rattle.table.specs.Lines.{paid_of, fined_of}
use Rattle.book.specs.declared.energies.Energies.{Energies}
use Rattle.book.specs.declared.hour.Hour.{Hour}
use Rattle.book.specs.declared.hour.Hour.TheVariants.{Blank}
use Rattle.book.specs.declared.register.Register.{Register}
use Rattle.book.specs.Hours.{is_allotted, is_correcting}
use Rattle.book.specs.State.{State, hours_of, line_at, charge_at}
use Rattle.book.specs.Calls.{no_resource}
use Rattle.sheet.specs.declared.entry.Key.{Key}
use Rattle.sheet.specs.declared.entry.Key.TheVariants.{Book, Month, Allotted, Correcting, Resource, Aggregator, Paid, Fined, Payer, Charged, Refunded}
use Rattle.sheet.specs.declared.entry.Entry.{Entry}
use Rattle.sheet.specs.Text.{text_of}

-- how many of 0 to n - 1 a test holds of
abbrev pub count_to : ℕ → (ℕ → Bool) → ℕ
count_to zero test = 0
count_to (suc n) test = count_to n test + cond (test n) 1 0

-- how many hours of the month stand as the test says
abbrev pub hours_that : (Hour Energies → Bool) → Register → List (Hour Energies) → ℕ
hours_that test s hours = count_to (hours_of s) (λ h. test (slice_index_or hours h Blank))

-- an amount of hour h, if the hour is allotted
abbrev pub if_allotted : List (Hour Energies) → ℕ → ℤ → ℤ
if_allotted hours h amount = cond (is_allotted (slice_index_or hours h Blank)) amount (pos 0)

-- the sum of an amount over the month's allotted hours
abbrev pub over_allotted : Register → List (Hour Energies) → (ℕ → ℤ) → ℤ
over_allotted s hours amount = total_to (hours_of s) (λ h. if_allotted hours h (amount h))

-- what resource r is paid and fined, and buyer k charged and refunded, in allotted hours
abbrev pub paid_over : State → ℕ → ℤ
paid_over b r = over_allotted b.register b.hours (λ h. paid_of (line_at b h r))

abbrev pub fined_over : State → ℕ → ℤ
fined_over b r = over_allotted b.register b.hours (λ h. fined_of (line_at b h r))

abbrev pub charged_over : State → ℕ → ℤ
charged_over b k = over_allotted b.register b.hours (λ h. (charge_at b h k).charge)

abbrev pub refunded_over : State → ℕ → ℤ
refunded_over b k = over_allotted b.register b.hours (λ h. (charge_at b h k).refund)

abbrev pub entry : Key → ℤ → Entry
entry key number = record { key = key; number = number }

abbrev pub head_entries : Register → List (Hour Energies) → List Entry
head_entries s hours =
    entry Book (pos s.number)
    ∷ entry Month (pos s.month)
    ∷ entry Allotted (pos (hours_that is_allotted s hours))
    ∷ entry Correcting (pos (hours_that is_correcting s hours))
    ∷ []

abbrev pub resource_entries : State → ℕ → List Entry
resource_entries b r =
    entry Resource (pos r)
    ∷ entry Aggregator (pos (slice_index_or b.register.resources r no_resource).aggregator)
    ∷ entry Paid (paid_over b r)
    ∷ entry Fined (fined_over b r)
    ∷ []

abbrev pub buyer_entries : State → ℕ → List Entry
buyer_entries b k = entry Payer (pos k) ∷ entry Charged (charged_over b k) ∷ entry Refunded (refunded_over b k) ∷ []

-- f 0, f 1 .. f (n - 1), one after another
abbrev pub joined_to : {X : Type 0} → ℕ → (ℕ → List X) → List X
joined_to zero f = []
joined_to (suc n) f = joined_to n f ++ f n

-- the head, then each resource, then each buyer
unfoldable pub sheet_entries : State → List Entry
sheet_entries b = (head_entries b.register b.hours ++ joined_to b.register.enrolled (resource_entries b)) ++ joined_to b.register.buyers (buyer_entries b)

-- the evening sheet
abbrev pub sheet_text : State → List ℕ
sheet_text b = text_of (sheet_entries b)
