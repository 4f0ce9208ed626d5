-- What every call leaves true of the book by itself: an allotted hour's charges are the shares of its lines' sums.
use Rattle.std.proofs.Common.{◌≡◌, ℕ, ◌+◌, ◌*◌, ◌<◌, ◌≤◌, true, false, ◌&&◌, eqb, ◌≢◌, length, ℤ, Some, Option, sym, ap, ◌∙◌, subst, ap₂, arith, length-set}
use Rattle.std.proofs.lemmas.Bool.{both_ways, ne_eqb, cond-false, and_left}
use Rattle.won.specs.Sums.{total_to}
use Rattle.won.proofs.Sums.{total_same}
use Rattle.table.specs.Lines.{ResourceLine, no_line, no_charge, paid_of, fined_of}
use Rattle.table.specs.declared.lines.BuyerLine.{BuyerLine}
use Rattle.table.proofs.Filling.{length_filled, read_filled}
use Rattle.table.proofs.Rows.{row_within, read_row, read_other_row}
use Rattle.book.specs.declared.energies.Energies.{Energies}
use Rattle.book.specs.declared.hour.Hour.{Hour}
use Rattle.book.specs.declared.hour.Hour.TheVariants.{Blank}
use Rattle.book.specs.Hours.{is_allotted, energies_in, told_anew}
use Rattle.book.specs.State.{State, hours_of, hour_at, line_at, charge_at, paid_in, fined_in}
use Rattle.book.specs.Calls.{with_energies, with_line, with_row, charges_of, purchases_in}
use Rattle.book.proofs.Places.{at_place}
use Rattle.book.proofs.Purchases.{SoundEnergies}

-- the charges of hour h are as its lines' sums and these energies say
pub record Row (b : State) (h : ℕ) (energies : Option Energies) : Type 0 where
  pub charges : (k : ℕ) → k < b.register.buyers → charge_at b h k ≡ charges_of (paid_in b h) (fined_in b h) (purchases_in energies) k

pub record Sound (b : State) : Type 0 where
  pub days_few : b.register.days ≤ 31
  pub buyers_few : b.register.buyers ≤ 8
  pub hours_long : length b.hours ≡ 744
  pub lines_long : hours_of b.register * b.register.enrolled ≤ length b.lines
  pub charges_long : hours_of b.register * b.register.buyers ≤ length b.charges
  pub energies : (h : ℕ) (e : Energies) → energies_in (hour_at b h) ≡ Some e → SoundEnergies b.register.buyers e
  pub rows : (h : ℕ) → h < hours_of b.register → is_allotted (hour_at b h) ≡ true → Row b h (energies_in (hour_at b h))
  pub past : (h : ℕ) → hours_of b.register ≤ h → hour_at b h ≡ Blank

some_same : (d e : Energies) → ◌≡◌ {A = Option Energies} (Some d) (Some e) → d ≡ e
some_same d e p = cc

-- telling anew leaves the state, and tells
pub anew_energies : {E : Type 0} (x : Hour E) (e : E) → energies_in (told_anew x e) ≡ Some e
anew_energies x e = grind arith

pub anew_allotted : {E : Type 0} (x : Hour E) (e : E) → is_allotted (told_anew x e) ≡ is_allotted x
anew_allotted x e = grind arith

-- an hour of the month is one of the 744
pub within_hours : (b : State) (p : ℕ) → Sound b → p < hours_of b.register → p < length b.hours
within_hours b p ok l = omega (arith, ok.hours_long, ok.days_few)

-- an hour past the month is another one
past_other : (p h n : ℕ) → p < n → n ≤ h → h ≢ p
past_other p h n l m e = omega arith

pub sound_energies : (b : State) (p : ℕ) (e : Energies) → Sound b → p < hours_of b.register → is_allotted (hour_at b p) ≡ false → SoundEnergies b.register.buyers e → Sound (with_energies b p e)
sound_energies b p e ok l free new = record {
  days_few = ok.days_few;
  buyers_few = ok.buyers_few;
  hours_long = length-set b.hours p _ ∙ ok.hours_long;
  lines_long = ok.lines_long;
  charges_long = ok.charges_long;
  energies = λ h. at_place b.hours p h _ Blank within (λ _ x. (f : Energies) → energies_in x ≡ Some f → SoundEnergies b.register.buyers f) (λ _ f q. subst (SoundEnergies b.register.buyers) (some_same e f (sym (anew_energies (hour_at b p) e) ∙ q)) new) (λ _. ok.energies h);
  rows = λ h lh. at_place b.hours p h _ Blank within (λ _ x. is_allotted x ≡ true → Row (with_energies b p e) h (energies_in x)) (λ _ q. absurd (both_ways (is_allotted (hour_at b p)) free (sym (anew_allotted (hour_at b p) e) ∙ q))) (λ _ q. record { charges = (ok.rows h lh q).charges });
  past = λ h lh. at_place b.hours p h _ Blank within (λ _ x. x ≡ Blank) (λ s. absurd (past_other p h _ l lh s)) (λ _. ok.past h lh);
}
  where
    within : p < length b.hours
    within = within_hours b p ok l

pub sound_line : (b : State) (p r : ℕ) (line : ResourceLine) → Sound b → p < hours_of b.register → r < b.register.enrolled → is_allotted (hour_at b p) ≡ false → Sound (with_line b p r line)
sound_line b p r line ok lp lr free = record {
  days_few = ok.days_few;
  buyers_few = ok.buyers_few;
  hours_long = ok.hours_long;
  lines_long = rw length-set ok.lines_long;
  charges_long = ok.charges_long;
  energies = ok.energies;
  rows = λ h lh q. record {
    charges = λ k lk. (ok.rows h lh q).charges k lk ∙ ap₂ (λ x y. charges_of x y (purchases_in (energies_in (hour_at b h))) k) (sums h q paid_of) (sums h q fined_of);
  };
  past = ok.past;
}
  where
    R : ℕ
    R = b.register.enrolled

    within : p * R + r < length b.lines
    within = omega (arith, ok.lines_long, row_within R p (hours_of b.register) lp)

    apart : (h : ℕ) → is_allotted (hour_at b h) ≡ true → eqb h p ≡ false
    apart h q = ne_eqb h p (λ s. both_ways (is_allotted (hour_at b p)) free (ap (λ j. is_allotted (hour_at b j)) (sym s) ∙ q))

    sums : (h : ℕ) → is_allotted (hour_at b h) ≡ true → (f : ResourceLine → ℤ) → total_to R (λ j. f (line_at b h j)) ≡ total_to R (λ j. f (line_at (with_line b p r line) h j))
    sums h q f = total_same R _ _ (λ j lj. ap f (sym (read_row b.lines R p r h j line no_line lr lj within ∙ cond-false (eqb h p && eqb j r) line (line_at b h j) (and_left (eqb h p) (eqb j r) (apart h q)))))

pub sound_row : (b : State) (p : ℕ) (new : Hour Energies) (row : ℕ → BuyerLine) → Sound b → p < hours_of b.register → energies_in new ≡ energies_in (hour_at b p)
    → (is_allotted new ≡ true → ((k : ℕ) → row k ≡ charges_of (paid_in b p) (fined_in b p) (purchases_in (energies_in new)) k)) → Sound (with_row b p new row)
sound_row b p new row ok lp same right = record {
  days_few = ok.days_few;
  buyers_few = ok.buyers_few;
  hours_long = length-set b.hours p _ ∙ ok.hours_long;
  lines_long = ok.lines_long;
  charges_long = rw length_filled ok.charges_long;
  energies = λ h. at_place b.hours p h _ Blank within (λ _ x. (f : Energies) → energies_in x ≡ Some f → SoundEnergies b.register.buyers f) (λ _ f q. ok.energies p f (sym same ∙ q)) (λ _. ok.energies h);
  rows = λ h lh. at_place b.hours p h _ Blank within (λ _ x. is_allotted x ≡ true → Row (with_row b p new row) h (energies_in x))
      (λ e q. record {
        charges = λ k lk.
            subst (λ j. charge_at (with_row b p new row) j k ≡ charges_of (paid_in b j) (fined_in b j) (purchases_in (energies_in new)) k) (sym e)
            (here k lk ∙ right q k);
      })
      (λ ne q. record {
        charges = λ k lk. read_other_row b.charges B h p B k row no_charge ne (omega arith) lk ∙ (ok.rows h lh q).charges k lk;
      });
  past = λ h lh. at_place b.hours p h _ Blank within (λ _ x. x ≡ Blank) (λ s. absurd (past_other p h _ lp lh s)) (λ _. ok.past h lh);
}
  where
    B : ℕ
    B = b.register.buyers

    here : (k : ℕ) → k < B → charge_at (with_row b p new row) p k ≡ row k
    here k lk = read_filled b.charges (p * B) B k row no_charge lk (omega (arith, ok.charges_long, row_within B p (hours_of b.register) lp))

    within : p < length b.hours
    within = within_hours b p ok lp
