-- What a step of an hour says of the call that makes it.
use Rattle.std.proofs.Common.{◌≡◌, ℕ, ◌*◌, List, ◌++◌, set, Some, None, Ok, Option, sym, ap, ◌∙◌, ap₂, arith}
use Rattle.refusal.specs.declared.Refusal.{Refusal}
use Rattle.refusal.specs.Tests.{first_of}
use Rattle.table.specs.declared.lines.BuyerLine.{BuyerLine}
use Rattle.table.specs.Tables.{filled}
use Rattle.book.specs.declared.energies.Energies.{Energies}
use Rattle.book.specs.declared.hour.Hour.{Hour}
use Rattle.book.specs.declared.hour.Step.{Step}
use Rattle.book.specs.Hours.{energies_in, as_allotted, step_tests, step_refusal, step_answer, stepped, hour_by, hour_after}
use Rattle.book.specs.State.{State, hour_at, paid_in, fined_in}
use Rattle.book.specs.Calls.{Call, tests, refusal, effect, state_by, step, with_row, charges_of, purchases_in, allotted}
use Rattle.book.specs.Seen.{granted_or}
use Rattle.book.proofs.Refused.{first_after}
use Rattle.book.proofs.Decided.{let_pass}

-- a step that answers energies was not refused, and they are the hour's
answered_ok : {E : Type 0} (call : Step) (x : Hour E) (e : E) → Ok e ≡ step_answer (step_refusal call x) x → (step_refusal call x ≡ None) × (energies_in x ≡ Some e)
answered_ok call x e f = grind arith

-- a call that tests os, then allots the hour at p and writes its charges
module _ (c : Call) (b : State) (call : Step) (os : List (Option Refusal)) (p : ℕ) (is : tests c b ≡ os ++ step_tests call (hour_at b p)) (does : effect c b ≡ allotted b p) (allots : (x : Hour Energies) → stepped call x ≡ as_allotted x) where
  pub charged : (h : ℕ) → Ok h ≡ granted_or (first_of os) p → (hours : List (Hour Energies)) (charges : List BuyerLine) (e : Energies)
      → Ok e ≡ step_answer (step_refusal call (hour_at b h)) (hour_at b h) → hours ≡ set b.hours h (hour_after call (hour_at b h))
      → charges ≡ filled b.charges (h * b.register.buyers) b.register.buyers (charges_of (paid_in b h) (fined_in b h) e.purchases)
      → record { register = b.register; hours = hours; lines = b.lines; charges = charges } ≡ (step c b).1
  charged h ok hours charges e q after row =
      let place = let_pass (first_of os) p h ok in
      let taken = answered_ok call (hour_at b h) e q in
      let none : refusal c b ≡ None = ap first_of is ∙ first_after os (step_tests call (hour_at b p)) place.0 ∙ ap (λ j. step_refusal call (hour_at b j)) (sym place.1) ∙ taken.0 in
      (λ i. record { register = b.register; hours = after i; lines = b.lines; charges = row i })
      ∙ ap₂ (λ x purchases. with_row b h x (charges_of (paid_in b h) (fined_in b h) purchases)) (ap (λ o. hour_by o (stepped call (hour_at b h)) (hour_at b h)) taken.0 ∙ allots (hour_at b h)) (sym (ap purchases_in taken.1))
      ∙ ap (allotted b) place.1
      ∙ sym does
      ∙ sym (ap (λ o. state_by o c b) none)
