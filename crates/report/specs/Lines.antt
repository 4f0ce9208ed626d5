-- What the numbers of a line must be, and what they say.
use Rattle.std.specs.Prelude.{ℕ, suc, ◌+◌, ◌-◌, Bool, cond, ◌&&◌, ◌||◌, List, [], ◌∷◌, length, drop, replicate, Some, None, Ok, Err, fold, sum, Option, Result, ◌==◌, nat_le, nat_lt, slice_index, slice_set}
use Rattle.load.specs.Meaning.{is_customer, is_day, is_hour}
use Rattle.load.specs.Records.{interval_place, register_place}
use Rattle.settlement.specs.Kinds.{kind_numbered}
use Rattle.settlement.specs.declared.terms.Kind.{Kind}
use Rattle.report.specs.declared.fault.Fault.{Fault}
use Rattle.report.specs.declared.fault.Fault.TheVariants.{TooFewNumbers, TooManyNumbers, OutOfRange}
use Rattle.report.specs.declared.hour.Purchases.{Purchases}
use Rattle.report.specs.declared.hour.Settling.{Settling}
use Rattle.report.specs.declared.meter.Meter.{Meter}
use Rattle.report.specs.declared.meter.Meter.TheVariants.{Loads, Readings}

-- just one number, from low to high
abbrev pub only_number : List ℕ → ℕ → ℕ → Result ℕ Fault
only_number [] low high = Err TooFewNumbers
only_number (n ∷ []) low high = cond (nat_lt n low || nat_lt high n) (Err OutOfRange) (Ok n)
only_number (n ∷ (m ∷ ms)) low high = Err TooManyNumbers

-- a byte for one more day
abbrev pub with_day : ℕ → Result (List ℕ) Fault → ℕ → Result (List ℕ) Fault
with_day byte (Err fault) d = Err fault
with_day byte (Ok table) d = cond (is_day d) (Ok (slice_set table d byte)) (Err OutOfRange)

-- the byte for one day or more
abbrev pub days_marked : ℕ → List ℕ → List ℕ → Result (List ℕ) Fault
days_marked byte [] table = Err TooFewNumbers
days_marked byte (d ∷ ds) table = fold (with_day byte) (Ok table) (d ∷ ds)

-- a day, and the hour in which its first order starts
abbrev pub start_marked : List ℕ → List ℕ → Result (List ℕ) Fault
start_marked [] table = Err TooFewNumbers
start_marked (d ∷ []) table = Err TooFewNumbers
start_marked (d ∷ (h ∷ [])) table = cond (is_day d && is_hour h) (Ok (slice_set table d h)) (Err OutOfRange)
start_marked (d ∷ (h ∷ (n ∷ ns))) table = Err TooManyNumbers

-- numbers written one behind another from a place on
abbrev pub written : ℕ → List ℕ → List ℕ → List ℕ
written place [] table = table
written place (v ∷ vs) table = written (suc place) vs (slice_set table place v)

-- loads are of hours 1 to 24; a reading of hour 0 stands at the day's begin
abbrev pub first_hour : Meter → ℕ
first_hour Loads = 1
first_hour Readings = 0

-- a meter has a number of the hour
abbrev pub has_hour : Meter → ℕ → ℕ → ℕ → Bool
has_hour m c d h = is_customer c && (is_day d && (nat_le (first_hour m) h && nat_le h 24))

-- where the record looks for the number of an hour
abbrev pub hour_place : Meter → ℕ → ℕ → ℕ → ℕ
hour_place Loads c d h = interval_place c d h
hour_place Readings c d h = register_place c d h

-- the place of the first of some numbers of a customer's day, at most to hour 24
abbrev pub place_for : Meter → ℕ → ℕ → ℕ → ℕ → Result ℕ Fault
place_for m c d h many =
    cond (has_hour m c d h)
    (cond (nat_lt (25 - h) many) (Err TooManyNumbers) (Ok (hour_place m c d h)))
    (Err OutOfRange)

-- customer, day and hour, and one number or more from that hour on
abbrev pub place_in : Meter → List ℕ → Result ℕ Fault
place_in m ns =
    cond (nat_lt (length ns) 4) (Err TooFewNumbers) (place_for m (slice_index ns 0) (slice_index ns 1) (slice_index ns 2) (length ns - 3))

-- a mark is 0 or 1
abbrev pub mark_in : ℕ → Result Bool Fault
mark_in n = cond (nat_lt n 2) (Ok (n == 1)) (Err OutOfRange)

-- marks written one behind another from a place on
abbrev pub marks_written : ℕ → List ℕ → List ℕ → Result (List ℕ) Fault
marks_written place [] table = Ok table
marks_written place (n ∷ ns) table =
    cond (nat_lt n 2) (marks_written (suc place) ns (slice_set table place n)) (Err OutOfRange)

-- kind, emergency mark, test mark and taking-part marks as they were found, with the line's other numbers
abbrev pub settling_from : List ℕ → Option Kind → Result Bool Fault → Result Bool Fault → Result (List ℕ) Fault → Result Settling Fault
settling_from ns None e t marks = Err OutOfRange
settling_from ns (Some k) (Err fault) t marks = Err fault
settling_from ns (Some k) (Ok e) (Err fault) marks = Err fault
settling_from ns (Some k) (Ok e) (Ok t) (Err fault) = Err fault
settling_from ns (Some k) (Ok e) (Ok t) (Ok marks) =
    Ok (record {
      hour = slice_index ns 0;
      kind = k;
      month = slice_index ns 2;
      terms = record { plan = slice_index ns 3; order = slice_index ns 4; emergency = e; test = t; smp = slice_index ns 7; mgp = slice_index ns 8 };
      marks = marks;
    })

-- hour, kind, month, plan, order, emergency, test, SMP and MGP, then at most 16 marks
abbrev pub settling_in : List ℕ → Result Settling Fault
settling_in ns =
    cond (nat_lt (length ns) 9) (Err TooFewNumbers)
    (cond (nat_lt 25 (length ns)) (Err TooManyNumbers)
    (settling_from ns (kind_numbered (slice_index ns 1)) (mark_in (slice_index ns 5)) (mark_in (slice_index ns 6)) (marks_written 0 (drop 9 ns) (replicate 16 0))))

-- the retailer's purchase, then those of the others, 0 where there is no buyer
abbrev pub purchased : ℕ → List ℕ → Purchases
purchased rest others = record { bought = written 1 others (slice_set (replicate 8 0) 0 rest); buyers = length others + 1 }

-- a total, then what each of at most 7 buyers but the retailer purchased of it; the rest is the retailer's
abbrev pub purchases_in : List ℕ → Result Purchases Fault
purchases_in [] = Err TooFewNumbers
purchases_in (total ∷ others) =
    cond (nat_lt 7 (length others)) (Err TooManyNumbers)
    (cond (nat_le 1 total && (nat_le total 150000000 && nat_le (sum others) total))
    (Ok (purchased (total - sum others) others))
    (Err OutOfRange))
