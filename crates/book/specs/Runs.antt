-- What a month's calls say by themselves, and the law that the book keeps to it.
use Rattle.std.specs.Prelude.{◌≡◌, ℕ, ◌<◌, ◌≤◌, Bool, true, false, cond, ◌&&◌, ◌||◌, List, [], ◌∷◌, ℤ, pos, ◌+ℤ◌, ◌-ℤ◌, ◌*ℤ◌, ◌<ℤ◌, Some, None, Option, ◌==◌}
use Rattle.refusal.specs.declared.Refusal.{Refusal}
use Rattle.won.specs.Sums.{total_to}
use Rattle.table.specs.Lines.{ResourceLine, no_line, paid_of, fined_of}
use Rattle.book.specs.declared.energies.Energies.{Energies}
use Rattle.book.specs.declared.hour.Hour.TheVariants.{Blank}
use Rattle.book.specs.declared.register.Register.{Register}
use Rattle.book.specs.Hours.{is_allotted, is_correcting}
use Rattle.book.specs.State.{State, hours_of, place, hour_at, charge_at, charged_in, refunded_in}
use Rattle.book.specs.Telling.{energies_of, purchase}
use Rattle.book.specs.Calls.{Settling, Slip, Call, named, of_book, slip_for, reckon, reckoned, refusal, after}
use Rattle.book.specs.Calls.Call.{tell, settle, withdraw, allot, reopen, finish}

-- the calls that were accepted

abbrev pub noted : Option Refusal → Call → List Call → List Call
noted None c cs = c ∷ cs
noted (Some refusal) c cs = cs

-- those of a run, the newest first
abbrev pub accepted : State → List Call → List Call
accepted b [] = []
accepted b (c ∷ cs) = noted (refusal c (after b cs)) c (accepted b cs)

-- what accepted calls say of an hour

-- the energies last told for hour h
abbrev pub last_told : ℕ → List Call → Option Energies
last_told h [] = None
last_told h (tell day hour total others ∷ cs) = cond (h == place day hour) (Some (energies_of total others)) (last_told h cs)
last_told h (settle q ∷ cs) = last_told h cs
last_told h (withdraw r day hour ∷ cs) = last_told h cs
last_told h (allot day hour ∷ cs) = last_told h cs
last_told h (reopen day hour ∷ cs) = last_told h cs
last_told h (finish slip ∷ cs) = last_told h cs

-- the last settling of resource r in hour h, if not withdrawn since
abbrev pub standing : ℕ → ℕ → List Call → Option Settling
standing h r [] = None
standing h r (tell day hour total others ∷ cs) = standing h r cs
standing h r (settle q ∷ cs) = cond (h == place q.day q.hour && r == q.resource) (Some q) (standing h r cs)
standing h r (withdraw r' day hour ∷ cs) = cond (h == place day hour && r == r') None (standing h r cs)
standing h r (allot day hour ∷ cs) = standing h r cs
standing h r (reopen day hour ∷ cs) = standing h r cs
standing h r (finish slip ∷ cs) = standing h r cs

-- whether the last allotting, reopening or finishing of hour h is an allotting or a finishing
abbrev pub last_allots : ℕ → List Call → Bool
last_allots h [] = false
last_allots h (tell day hour total others ∷ cs) = last_allots h cs
last_allots h (settle q ∷ cs) = last_allots h cs
last_allots h (withdraw r day hour ∷ cs) = last_allots h cs
last_allots h (allot day hour ∷ cs) = cond (h == place day hour) true (last_allots h cs)
last_allots h (reopen day hour ∷ cs) = cond (h == place day hour) false (last_allots h cs)
last_allots h (finish slip ∷ cs) = cond (h == place slip.day slip.hour) true (last_allots h cs)

-- lists of slips

abbrev pub same_slip : Slip → Slip → Bool
same_slip a b = a.number == b.number && (a.day == b.day && a.hour == b.hour)

abbrev pub held : Slip → List Slip → Bool
held slip [] = false
held slip (x ∷ xs) = same_slip slip x || held slip xs

-- the list without the newest of these slips
abbrev pub without : Slip → List Slip → List Slip
without slip [] = []
without slip (x ∷ xs) = cond (same_slip slip x) xs (x ∷ without slip xs)

-- the slips handed out and not yet spent, the newest first: a reopening hands one out, a finishing spends one
abbrev pub unspent : Register → List Call → List Slip
unspent s [] = []
unspent s (tell day hour total others ∷ cs) = unspent s cs
unspent s (settle q ∷ cs) = unspent s cs
unspent s (withdraw r day hour ∷ cs) = unspent s cs
unspent s (allot day hour ∷ cs) = unspent s cs
unspent s (reopen day hour ∷ cs) = slip_for s day hour ∷ unspent s cs
unspent s (finish slip ∷ cs) = without slip (unspent s cs)

-- money by the calls alone

-- the line of a standing settling
abbrev pub line_of : Register → Option Settling → ResourceLine
line_of s None = no_line
line_of s (Some q) = reckoned (reckon s q)

-- an hour's payments and fines, by its standing settlings
abbrev pub payments : Register → List Call → ℕ → ℤ
payments s cs h = total_to s.enrolled (λ r. paid_of (line_of s (standing h r cs)))

abbrev pub fines : Register → List Call → ℕ → ℤ
fines s cs h = total_to s.enrolled (λ r. fined_of (line_of s (standing h r cs)))

-- the sum of an amount over the month's allotted hours
abbrev pub over_allotted : Register → List Call → (ℕ → ℤ) → ℤ
over_allotted s cs amount = total_to (hours_of s) (λ h. cond (last_allots h cs) (amount h) (pos 0))

-- the law

-- charges less refunds are payments less fines, and charges are payments: in each allotted hour, and over the month
pub record Balanced (s : Register) (b : State) (cs : List Call) : Type 0 where
  pub hour_net : (h : ℕ) → last_allots h cs ≡ true → charged_in b h -ℤ refunded_in b h ≡ payments s cs h -ℤ fines s cs h
  pub hour_gross : (h : ℕ) → last_allots h cs ≡ true → charged_in b h ≡ payments s cs h
  pub net : over_allotted s cs (charged_in b) -ℤ over_allotted s cs (refunded_in b) ≡ over_allotted s cs (payments s cs) -ℤ over_allotted s cs (fines s cs)
  pub gross : over_allotted s cs (charged_in b) ≡ over_allotted s cs (payments s cs)

-- buyer k's won are less than one from the exact amount × purchase ÷ total, told in whole numbers
pub record WithinAWon (won amount : ℤ) (e : Energies) (k : ℕ) : Type 0 where
  pub above : (won *ℤ pos e.total) <ℤ (amount *ℤ pos (purchase e k) +ℤ pos e.total)
  pub below : (amount *ℤ pos (purchase e k)) <ℤ (won *ℤ pos e.total +ℤ pos e.total)

-- in each allotted hour each buyer's charge and refund is less than one won from the exact share by the energies last told
abbrev pub Fair : Register → State → List Call → Type 0
Fair s b cs =
    (h k : ℕ) → last_allots h cs ≡ true → k < s.buyers →
    (e : Energies) × (last_told h cs ≡ Some e) × WithinAWon (charge_at b h k).charge (payments s cs h) e k × WithinAWon (charge_at b h k).refund (fines s cs h) e k

-- the hours held allotted are those that the calls allotted last; those held in correction are those whose slip of this book was handed out
-- and not yet spent; no other slip is out, and no hour past the month is held
pub record StatesExact (s : Register) (b : State) (cs : List Call) : Type 0 where
  pub allotted : (h : ℕ) → is_allotted (hour_at b h) ≡ last_allots h cs
  pub correcting : (slip : Slip) → (of_book s slip && is_correcting (named b slip.day slip.hour)) ≡ held slip (unspent s cs)
  pub past : (h : ℕ) → hours_of s ≤ h → hour_at b h ≡ Blank

pub record Law (s : Register) (b : State) (cs : List Call) : Type 0 where
  pub balanced : Balanced s b cs
  pub fair : Fair s b cs
  pub exact : StatesExact s b cs
