-- A slip just handed out can be finished with, and all calls but the finishing of its hour leave that so.
use Rattle.std.proofs.Common.{◌≡◌, ℕ, ◌+◌, ◌*◌, ◌<◌, ◌≤◌, Bool, true, false, not, ◌||◌, ltb, ◌≢◌, List, [], ◌∷◌, length, get_or, Some, None, Err, Option, sym, refl, ap, ◌∙◌, ⊎_elim, arith, length-set, get_or-set_other}
use Rattle.std.proofs.lemmas.Bool.{cases_lt, both_ways, not-false}
use Rattle.std.proofs.lemmas.List.{set_past}
use Rattle.refusal.specs.declared.Refusal.{Refusal}
use Rattle.refusal.specs.declared.Refusal.TheVariants.{ShortLists, WrongSlip}
use Rattle.refusal.specs.Tests.{refused_if, first_of}
use Rattle.table.specs.Lines.{ResourceLine}
use Rattle.table.specs.declared.lines.BuyerLine.{BuyerLine}
use Rattle.table.proofs.Filling.{length_filled}
use Rattle.book.specs.declared.energies.Energies.{Energies}
use Rattle.book.specs.declared.hour.Hour.{Hour}
use Rattle.book.specs.declared.hour.Hour.TheVariants.{Blank}
use Rattle.book.specs.declared.slip.Slip as handed
use Rattle.book.specs.declared.slip.RefusedSlip.{RefusedSlip}
use Rattle.book.specs.Hours.{is_allotted, is_correcting, told_anew}
use Rattle.book.specs.State.{State, hours_of, place, hour_at, short_for}
use Rattle.book.specs.Calls.{Slip, Settling, Call, named, of_book, tests, refusal, effect, state_by, step, with_energies, with_line, with_row}
use Rattle.book.specs.Calls.Call.{tell, settle, withdraw, allot, reopen, finish}
use Rattle.book.specs.Seen.{back_or}
use Rattle.book.proofs.Places.{at_place}
use Rattle.book.proofs.Refused.{passed, not_refused}
use Rattle.book.proofs.History.{anew_correcting}

none_of : (s t u : Bool) → s ≡ false → t ≡ true → u ≡ true → first_of (refused_if s ShortLists ∷ refused_if (not t) WrongSlip ∷ refused_if (not u) WrongSlip ∷ []) ≡ None
none_of s t u e f g = grind arith

-- what a finishing that is not refused says
record OpenSlip (b : State) (slip : Slip) : Type 0 where
  long : short_for b.register b.lines b.charges ≡ false
  ours : of_book b.register slip ≡ true
  out : is_correcting (named b slip.day slip.hour) ≡ true

open_slip : (b : State) (slip : Slip) → refusal (finish slip) b ≡ None → OpenSlip b slip
open_slip b slip e =
    let pass = passed (tests (finish slip) b) e in
    record { long = not_refused _ _ (pass 0); ours = not-false _ (not_refused _ _ (pass 1)); out = not-false _ (not_refused _ _ (pass 2)) }

finishes : (b : State) (slip : Slip) → OpenSlip b slip → refusal (finish slip) b ≡ None
finishes b slip o = none_of _ _ _ o.long o.ours o.out

-- energies told for any hour leave the hours in correction
told_still : (b : State) (h : ℕ) (e : Energies) (slip : Slip) → OpenSlip b slip → OpenSlip (with_energies b h e) slip
told_still b h e slip o = record { long = o.long; ours = o.ours; out = ⊎_elim inside outside (cases_lt h (length b.hours)) }
  where
    p : ℕ
    p = place slip.day slip.hour

    inside : h < length b.hours → is_correcting (hour_at (with_energies b h e) p) ≡ true
    inside l = at_place b.hours h p _ Blank l (λ _ x. is_correcting x ≡ true) (λ s. anew_correcting (hour_at b h) e ∙ ap (λ j. is_correcting (hour_at b j)) (sym s) ∙ o.out) (λ _. o.out)

    outside : length b.hours ≤ h → is_correcting (hour_at (with_energies b h e) p) ≡ true
    outside l = ap (λ hs. is_correcting (get_or hs p Blank)) (set_past b.hours h (told_anew (hour_at b h) e) l) ∙ o.out

line_still : (b : State) (h r : ℕ) (line : ResourceLine) (slip : Slip) → OpenSlip b slip → OpenSlip (with_line b h r line) slip
line_still b h r line slip o = record {
  long = ap (λ n. ltb n (hours_of b.register * b.register.enrolled) || ltb (length b.charges) (hours_of b.register * b.register.buyers)) (length-set b.lines (h * b.register.enrolled + r) line) ∙ o.long;
  ours = o.ours;
  out = o.out;
}

-- another hour's state and charges leave the hours in correction
row_still : (b : State) (h : ℕ) (x : Hour Energies) (row : ℕ → BuyerLine) (slip : Slip) → OpenSlip b slip → place slip.day slip.hour ≢ h → OpenSlip (with_row b h x row) slip
row_still b h x row slip o ne = record {
  long = ap (λ n. ltb (length b.lines) (hours_of b.register * b.register.enrolled) || ltb n (hours_of b.register * b.register.buyers)) (length_filled b.charges (h * b.register.buyers) b.register.buyers row) ∙ o.long;
  ours = o.ours;
  out = ap is_correcting (get_or-set_other b.hours h (place slip.day slip.hour) x Blank ne) ∙ o.out;
}

-- no hour is both allotted and in correction
one_state : (x : Hour Energies) → is_allotted x ≡ true → is_correcting x ≡ true → ⊥
one_state x e f = grind arith

by : (b : State) (c : Call) (slip : Slip) → refusal (finish slip) b ≡ None → (refusal c b ≡ None → refusal (finish slip) (effect c b) ≡ None) → refusal (finish slip) (step c b).1 ≡ None
by b c slip e k = go (refusal c b) refl
  where
    go : (o : Option Refusal) → refusal c b ≡ o → refusal (finish slip) (state_by o c b) ≡ None
    go None q = k q
    go (Some r) q = e

module _ (b : State) (slip : Slip) (e : refusal (finish slip) b ≡ None) where
  pub finishes_told : (day hour total : ℕ) (others : List ℕ) → refusal (finish slip) (step (tell day hour total others) b).1 ≡ None
  finishes_told day hour total others = by b (tell day hour total others) slip e (λ _. finishes _ slip (told_still b _ _ slip (open_slip b slip e)))

  pub finishes_settled : (q : Settling) → refusal (finish slip) (step (settle q) b).1 ≡ None
  finishes_settled q = by b (settle q) slip e (λ _. finishes _ slip (line_still b _ _ _ slip (open_slip b slip e)))

  pub finishes_withdrawn : (r day hour : ℕ) → refusal (finish slip) (step (withdraw r day hour) b).1 ≡ None
  finishes_withdrawn r day hour = by b (withdraw r day hour) slip e (λ _. finishes _ slip (line_still b _ _ _ slip (open_slip b slip e)))

  -- an hour in correction can be neither allotted nor reopened, so another hour is
  pub finishes_allotted : (day hour : ℕ) → refusal (finish slip) (step (allot day hour) b).1 ≡ None
  finishes_allotted day hour = by b (allot day hour) slip e (λ none. finishes _ slip (row_still b (place day hour) _ _ slip (open_slip b slip e) (λ same. both_ways _ (not_refused _ _ (passed (tests (allot day hour) b) none 3)) (ap (λ p. is_correcting (hour_at b p)) (sym same) ∙ (open_slip b slip e).out))))

  -- an hour that is reopened was not in correction
  pub finishes_elsewhere : (day hour : ℕ) → refusal (reopen day hour) b ≡ None → place slip.day slip.hour ≢ place day hour
  finishes_elsewhere day hour none = λ same. one_state (hour_at b (place day hour)) (not-false _ (not_refused _ _ (passed (tests (reopen day hour) b) none 2))) (ap (λ p. is_correcting (hour_at b p)) (sym same) ∙ (open_slip b slip e).out)

  pub finishes_reopened : (day hour : ℕ) → refusal (finish slip) (step (reopen day hour) b).1 ≡ None
  finishes_reopened day hour = by b (reopen day hour) slip e (λ none. finishes _ slip (row_still b (place day hour) _ _ slip (open_slip b slip e) (finishes_elsewhere day hour none)))

  -- the finishing of another hour
  pub finishes_other : (other : Slip) → place slip.day slip.hour ≢ place other.day other.hour → refusal (finish slip) (step (finish other) b).1 ≡ None
  finishes_other other ne = by b (finish other) slip e (λ none. finishes _ slip (row_still b (place other.day other.hour) _ _ slip (open_slip b slip e) ne))

-- then no slip is handed back
pub never_back : (o : Option Refusal) (slip : handed.Slip) (x : RefusedSlip) → o ≡ None → Err x ≡ back_or o slip → ⊥
never_back o slip x e f = grind arith

-- a slip that is handed back is the one that was given
pub handed_back : (o : Option Refusal) (slip : handed.Slip) (x : RefusedSlip) → Err x ≡ back_or o slip → x.slip ≡ slip
handed_back o slip x e = grind arith
