-- The columns of a sheet balance.
use Rattle.std.proofs.Common.{◌≡◌, ℕ, zero, suc, Bool, true, false, cond, List, [], ◌∷◌, ◌++◌, ℤ, pos, ◌+ℤ◌, ◌-ℤ◌, Ok, Err, sym, refl, ap, ◌∙◌, ap₂, arith}
use Rattle.std.proofs.lemmas.Int.{ints}
use Rattle.refusal.specs.declared.Refusal.TheVariants.{ShortLists}
use Rattle.won.specs.Sums.{total_to}
use Rattle.won.proofs.Sums.{total_same, total_add, total_nought}
use Rattle.table.specs.Lines.{paid_of, fined_of}
use Rattle.book.specs.declared.reconcile.Reconciliation.{Reconciliation}
use Rattle.book.specs.declared.register.Register.{Register}
use Rattle.book.specs.Hours.{is_allotted}
use Rattle.book.specs.State.{State, hours_of, hour_at, line_at, charge_at, short_for}
use Rattle.book.specs.Opening.{register_of, opened}
use Rattle.book.specs.Runs.{accepted}
use Rattle.book.specs.Reconciled.{zeros, hour_sums, sums_to, by_calls}
use Rattle.book.proofs.Balance.{lawful}
use Rattle.sheet.specs.declared.entry.Key.{Key}
use Rattle.sheet.specs.declared.entry.Key.TheVariants.{Paid, Fined, Charged, Refunded}
use Rattle.sheet.specs.declared.entry.Entry.{Entry}
use Rattle.sheet.specs.Evening.{over_allotted, paid_over, fined_over, charged_over, refunded_over, head_entries, resource_entries, buyer_entries, joined_to, sheet_entries}
use Rattle.sheet.specs.Columns.{column, BalancedSheet}

-- sums of rows are sums of columns

total_swap : (n m : ℕ) (f : ℕ → ℕ → ℤ) → total_to n (λ h. total_to m (f h)) ≡ total_to m (λ r. total_to n (λ h. f h r))
total_swap zero m f = sym (total_nought m (λ r. pos 0) (λ k l. refl))
total_swap (suc n) m f = ap (λ s. s +ℤ total_to m (f n)) (total_swap n m f) ∙ sym (total_add m (λ r. total_to n (λ h. f h r)) (f n))

cond_total : (t : Bool) (m : ℕ) (f : ℕ → ℤ) → cond t (total_to m f) (pos 0) ≡ total_to m (λ r. cond t (f r) (pos 0))
cond_total true m f = refl
cond_total false m f = sym (total_nought m (λ r. pos 0) (λ k l. refl))

-- an amount of each hour's rows, summed over the month's allotted hours
by_columns : (b : State) (m : ℕ) (f : ℕ → ℕ → ℤ) (g : ℕ → ℤ) → ((h : ℕ) → g h ≡ cond (is_allotted (hour_at b h)) (total_to m (f h)) (pos 0)) →
    total_to (hours_of b.register) g ≡ total_to m (λ r. over_allotted b.register b.hours (λ h. f h r))
by_columns b m f g e =
    total_same (hours_of b.register) g _ (λ h l. e h ∙ cond_total (is_allotted (hour_at b h)) m (f h))
    ∙ total_swap (hours_of b.register) m (λ h r. cond (is_allotted (hour_at b h)) (f h r) (pos 0))

field : (f : Reconciliation → ℤ) (t : Bool) (x : Reconciliation) → f zeros ≡ pos 0 → f (cond t x zeros) ≡ cond t (f x) (pos 0)
field f true x e = refl
field f false x e = e

-- the month's sums by the book are those of the columns

module _ (b : State) where
  payments_are : (sums_to b (hours_of b.register)).payments ≡ total_to b.register.enrolled (paid_over b)
  payments_are = by_columns b b.register.enrolled (λ h r. paid_of (line_at b h r)) _ (λ h. field (λ x. x.payments) (is_allotted (hour_at b h)) (hour_sums b h) refl)

  fines_are : (sums_to b (hours_of b.register)).fines ≡ total_to b.register.enrolled (fined_over b)
  fines_are = by_columns b b.register.enrolled (λ h r. fined_of (line_at b h r)) _ (λ h. field (λ x. x.fines) (is_allotted (hour_at b h)) (hour_sums b h) refl)

  charges_are : (sums_to b (hours_of b.register)).charges ≡ total_to b.register.buyers (charged_over b)
  charges_are = by_columns b b.register.buyers (λ h k. (charge_at b h k).charge) _ (λ h. field (λ x. x.charges) (is_allotted (hour_at b h)) (hour_sums b h) refl)

  refunds_are : (sums_to b (hours_of b.register)).refunds ≡ total_to b.register.buyers (refunded_over b)
  refunds_are = by_columns b b.register.buyers (λ h k. (charge_at b h k).refund) _ (λ h. field (λ x. x.refunds) (is_allotted (hour_at b h)) (hour_sums b h) refl)

-- columns of entries one after another

column_append : (key : Key) (xs ys : List Entry) → column key (xs ++ ys) ≡ column key xs +ℤ column key ys
column_append key [] ys = omega (arith, ints)
column_append key (x ∷ xs) ys = omega (arith, ints, column_append key xs ys)

column_joined : (key : Key) (n : ℕ) (f : ℕ → List Entry) (g : ℕ → ℤ) → ((k : ℕ) → column key (f k) ≡ g k) → column key (joined_to n f) ≡ total_to n g
column_joined key zero f g e = refl
column_joined key (suc n) f g e = column_append key (joined_to n f) (f n) ∙ ap₂ ◌+ℤ◌ (column_joined key n f g e) (e n)

column_sheet : (key : Key) (b : State) (f g : ℕ → ℤ) → column key (head_entries b.register b.hours) ≡ pos 0
    → ((r : ℕ) → column key (resource_entries b r) ≡ f r) → ((k : ℕ) → column key (buyer_entries b k) ≡ g k)
    → column key (sheet_entries b) ≡ total_to b.register.enrolled f +ℤ total_to b.register.buyers g
unfolding sheet_entries
column_sheet key b f g z p q =
    let head = head_entries b.register b.hours in
    let resources = joined_to b.register.enrolled (resource_entries b) in
    let buyers = joined_to b.register.buyers (buyer_entries b) in
    omega (
      arith,
      ints,
      z,
      column_append key (head ++ resources) buyers,
      column_append key head resources,
      column_joined key b.register.enrolled (resource_entries b) f p,
      column_joined key b.register.buyers (buyer_entries b) g q,
    )

module _ (b : State) where
  no_resources : total_to b.register.enrolled (λ r. pos 0) ≡ pos 0
  no_resources = total_nought b.register.enrolled (λ r. pos 0) (λ k l. refl)

  no_buyers : total_to b.register.buyers (λ k. pos 0) ≡ pos 0
  no_buyers = total_nought b.register.buyers (λ k. pos 0) (λ k l. refl)

  paid_column : column Paid (sheet_entries b) ≡ total_to b.register.enrolled (paid_over b)
  paid_column = omega (arith, ints, no_buyers, column_sheet Paid b (paid_over b) (λ k. pos 0) refl (λ r. omega (arith, ints)) (λ k. refl))

  fined_column : column Fined (sheet_entries b) ≡ total_to b.register.enrolled (fined_over b)
  fined_column = omega (arith, ints, no_buyers, column_sheet Fined b (fined_over b) (λ k. pos 0) refl (λ r. omega (arith, ints)) (λ k. refl))

  charged_column : column Charged (sheet_entries b) ≡ total_to b.register.buyers (charged_over b)
  charged_column = omega (arith, ints, no_resources, column_sheet Charged b (λ r. pos 0) (charged_over b) refl (λ r. refl) (λ k. omega (arith, ints)))

  refunded_column : column Refunded (sheet_entries b) ≡ total_to b.register.buyers (refunded_over b)
  refunded_column = omega (arith, ints, no_resources, column_sheet Refunded b (λ r. pos 0) (refunded_over b) refl (λ r. refl) (λ k. omega (arith, ints)))

-- what the calls say is charged is what is paid, and what is refunded is what is fined
figures_agree : (t : Bool) (x y : Reconciliation) → cond t (Err ShortLists) (Ok x) ≡ Ok y → y.charges ≡ y.payments → y.refunds ≡ y.fines → (x.charges ≡ x.payments) × (x.refunds ≡ x.fines)
figures_agree true x y e p q = absurd (let z : ◌≡◌ {A = ℕ} 0 1 = cc in omega arith)
figures_agree false x y e p q = let s : x ≡ y = cc in (ap (λ z. z.charges) s ∙ p ∙ sym (ap (λ z. z.payments) s), ap (λ z. z.refunds) s ∙ q ∙ sym (ap (λ z. z.fines) s))

pub balanced_sheet : (b : State) → BalancedSheet b
balanced_sheet b o unopened calls run =
    let u = lawful b o unopened calls run in
    let s : Register = register_of o in
    let agree = figures_agree (short_for b.register b.lines b.charges) (sums_to b (hours_of b.register)) (by_calls s (accepted (opened o unopened) calls)) u.figures refl refl in
    let gross = charged_column b ∙ sym (charges_are b) ∙ agree.0 ∙ payments_are b ∙ sym (paid_column b) in
    let back = refunded_column b ∙ sym (refunds_are b) ∙ agree.1 ∙ fines_are b ∙ sym (fined_column b) in
    record { net = ap₂ ◌-ℤ◌ gross back; gross = gross }
