-- The month's sums over the hours that a book holds allotted, and what they are after any run of calls.
use Rattle.std.specs.Prelude.{◌≡◌, ℕ, cond, List, pos, ◌+ℤ◌, None, Ok, Err, Result}
use Rattle.refusal.specs.declared.Refusal.{Refusal}
use Rattle.refusal.specs.declared.Refusal.TheVariants.{ShortLists}
use Rattle.won.specs.Sums.{total_to}
use Rattle.book.specs.declared.reconcile.Reconciliation.{Reconciliation}
use Rattle.book.specs.declared.register.Register.{Register}
use Rattle.book.specs.Hours.{is_allotted}
use Rattle.book.specs.State.{State, hours_of, hour_at, short_for, paid_in, fined_in, charged_in, refunded_in}
use Rattle.book.specs.Calls.{Call, after}
use Rattle.book.specs.Opening.{Opening, opening_refusal, opened, register_of}
use Rattle.book.specs.Runs.{accepted, payments, fines, over_allotted, Law}

abbrev pub zeros : Reconciliation
zeros = record { payments = pos 0; fines = pos 0; charges = pos 0; refunds = pos 0 }

abbrev pub added : Reconciliation → Reconciliation → Reconciliation
added x y = record { payments = x.payments +ℤ y.payments; fines = x.fines +ℤ y.fines; charges = x.charges +ℤ y.charges; refunds = x.refunds +ℤ y.refunds }

-- an hour's sums of its lines and charges
abbrev pub hour_sums : State → ℕ → Reconciliation
hour_sums b h = record { payments = paid_in b h; fines = fined_in b h; charges = charged_in b h; refunds = refunded_in b h }

-- an hour's sums if the book holds it allotted, else nothing
abbrev pub held_sums : State → ℕ → Reconciliation
held_sums b h = cond (is_allotted (hour_at b h)) (hour_sums b h) zeros

-- those of hours 0 to n - 1 together
abbrev pub sums_to : State → ℕ → Reconciliation
sums_to b n = record {
  payments = total_to n (λ h. (held_sums b h).payments);
  fines = total_to n (λ h. (held_sums b h).fines);
  charges = total_to n (λ h. (held_sums b h).charges);
  refunds = total_to n (λ h. (held_sums b h).refunds);
}

-- the month's sums, unless a list is shorter than the measure
abbrev pub reconciled : State → Result Reconciliation Refusal
reconciled b = cond (short_for b.register b.lines b.charges) (Err ShortLists) (Ok (sums_to b (hours_of b.register)))

-- the month's sums by the calls alone: buyers are charged what is paid, and refunded what is fined
abbrev pub by_calls : Register → List Call → Reconciliation
by_calls s cs = record {
  payments = over_allotted s cs (payments s cs);
  fines = over_allotted s cs (fines s cs);
  charges = over_allotted s cs (payments s cs);
  refunds = over_allotted s cs (fines s cs);
}

-- a run: an accepted opening, and calls that led to this book
pub record Run (b : State) (o : Opening) (unopened : State) (calls : List Call) : Type 0 where
  pub opens : opening_refusal o unopened ≡ None
  pub leads : b ≡ after (opened o unopened) calls

-- the law holds of the book, and the answer is what the accepted calls say
pub record Upheld (b : State) (answer : Result Reconciliation Refusal) (s : Register) (cs : List Call) : Type 0 where
  pub law : Law s b cs
  pub figures : answer ≡ Ok (by_calls s cs)

-- whatever opening and whatever calls led to this book
abbrev pub Lawful : State → Result Reconciliation Refusal → Type 0
Lawful b answer = (o : Opening) (unopened : State) (calls : List Call) → Run b o unopened calls → Upheld b answer (register_of o) (accepted (opened o unopened) calls)
