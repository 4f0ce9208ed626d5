-- After every accepted call the book holds what the calls say.
use Rattle.std.proofs.Common.{◌≡◌, ℕ, ◌+◌, ◌-◌, ◌<◌, Bool, true, false, cond, not, ◌&&◌, eqb, ◌≢◌, List, ◌∷◌, Some, None, Option, sym, refl, ap, ◌∙◌, arith}
use Rattle.std.proofs.lemmas.Bool.Decides.{nat_tests}
use Rattle.std.proofs.lemmas.Bool.{eqb-true, eqb-false, eq-eqb, ltb-true, ltb-false, and_parts, and_from, or_parts, not-false, both_ways}
use Rattle.refusal.specs.declared.Refusal.{Refusal}
use Rattle.refusal.specs.Tests.{refused_if}
use Rattle.table.specs.declared.lines.BuyerLine.{BuyerLine}
use Rattle.table.specs.Lines.{no_line}
use Rattle.table.proofs.Rows.{row_within, read_row}
use Rattle.book.specs.declared.energies.Energies.{Energies}
use Rattle.book.specs.declared.hour.Hour.{Hour}
use Rattle.book.specs.declared.hour.Hour.TheVariants.{Blank}
use Rattle.book.specs.Hours.{is_none, is_allotted, is_correcting, energies_in, told_anew, as_allotted, as_correcting}
use Rattle.book.specs.State.{State, hours_of, in_month, place, hour_at, line_at, paid_in, fined_in}
use Rattle.book.specs.Telling.{energies_of}
use Rattle.book.specs.Calls.{Settling, Slip, Call, named, of_book, slip_for, with_line, with_row, charges_of, purchases_in, tests, refusal, effect}
use Rattle.book.specs.Calls.Call.{tell, settle, withdraw, allot, reopen, finish}
use Rattle.book.specs.Runs.{last_told, standing, last_allots, unspent, line_of}
use Rattle.book.proofs.Places.{at_place}
use Rattle.book.proofs.Purchases.{sound_told}
use Rattle.book.proofs.Refused.{passed, not_refused, within_month}
use Rattle.book.proofs.Sound.{Sound, anew_energies, anew_allotted, within_hours, sound_energies, sound_line, sound_row}
use Rattle.book.proofs.Slips.{copies, copies_without, slips_meet}

-- what a step does to an hour

pub allotted_energies : {E : Type 0} (x : Hour E) → energies_in (as_allotted x) ≡ energies_in x
allotted_energies x = grind arith

pub correcting_energies : {E : Type 0} (x : Hour E) → energies_in (as_correcting x) ≡ energies_in x
correcting_energies x = grind arith

told_allots : {E : Type 0} (x : Hour E) → is_none (energies_in x) ≡ false → is_allotted (as_allotted x) ≡ true
told_allots x e = grind arith

-- an hour in correction has energies
pub correcting_told : {E : Type 0} (x : Hour E) → is_correcting x ≡ true → is_none (energies_in x) ≡ false
correcting_told x e = grind arith

none_correcting : {E : Type 0} (x : Hour E) → is_correcting (as_allotted x) ≡ false
none_correcting x = grind arith

none_allotted : {E : Type 0} (x : Hour E) → is_allotted (as_correcting x) ≡ false
none_allotted x = grind arith

pub allotted_corrects : {E : Type 0} (x : Hour E) → is_allotted x ≡ true → is_correcting (as_correcting x) ≡ true
allotted_corrects x e = grind arith

not_correcting : {E : Type 0} (x : Hour E) → is_allotted x ≡ true → is_correcting x ≡ false
not_correcting x e = grind arith

pub anew_correcting : {E : Type 0} (x : Hour E) (e : E) → is_correcting (told_anew x e) ≡ is_correcting x
anew_correcting x e = grind arith

positive : (n : ℕ) → n ≢ 0 → 0 < n
positive n ne = omega arith

cond_ap : {X Y : Type 0} (f : X → Y) (t : Bool) (x y : X) → cond t (f x) (f y) ≡ f (cond t x y)
cond_ap f t x y = grind arith

-- once if so, else never
abbrev pub once : Bool → ℕ
once t = cond t 1 0

-- what the book holds is what the calls say
pub record Tells (b : State) (cs : List Call) : Type 0 where
  pub told : (h : ℕ) → energies_in (hour_at b h) ≡ last_told h cs
  pub lines : (h r : ℕ) → h < hours_of b.register → r < b.register.enrolled → line_at b h r ≡ line_of b.register (standing h r cs)
  pub allots : (h : ℕ) → is_allotted (hour_at b h) ≡ last_allots h cs
  pub slips : (x : Slip) → copies x (unspent b.register cs) ≡ once (of_book b.register x && is_correcting (named b x.day x.hour))

pub record Kept (b : State) (cs : List Call) : Type 0 where
  pub sound : Sound b
  pub tells : Tells b cs

-- a slip of the hour q more or fewer, where p is the hour that changed
turn : (f : ℕ → ℕ) (o : Bool) (q p n : ℕ) (was new : Bool) → f (once was) ≡ once new → (q ≡ p → n ≡ once (o && was)) → cond (o && eqb q p) (f n) n ≡ cond (eqb q p) (once (o && new)) n
turn f o q p n was new step here = grind (arith, nat_tests)

module _ (b : State) (cs : List Call) (ok : Kept b cs) where
  month : (day hour : ℕ) (r : Refusal) → refused_if (not (in_month b.register day hour)) r ≡ None → in_month b.register day hour ≡ true
  month day hour r e = not-false _ (not_refused _ _ e)

  -- the slip of hour p, where that is the hour named
  slips_here : (x : Slip) (p : ℕ) → place x.day x.hour ≡ p → copies x (unspent b.register cs) ≡ once (of_book b.register x && is_correcting (hour_at b p))
  slips_here x p e = ok.tells.slips x ∙ ap (λ j. once (of_book b.register x && is_correcting (hour_at b j))) e

  pub kept_tell : (day hour t : ℕ) (o : List ℕ) → refusal (tell day hour t o) b ≡ None → Kept (effect (tell day hour t o) b) (tell day hour t o ∷ cs)
  kept_tell day hour t o no-fault =
      let pass = passed (tests (tell day hour t o) b) no-fault in
      let p : ℕ = place day hour in
      let lp = within_month b.register day hour (month day hour _ (pass 1)) in
      let free = not_refused _ _ (pass 2) in
      let total = or_parts _ _ (not_refused _ _ (pass 3)) in
      let count = eqb-true _ _ (not-false _ (not_refused _ _ (pass 4))) in
      let below = ltb-false _ _ (not_refused _ _ (pass 5)) in
      let l = within_hours b p ok.sound lp in
      record {
        sound = sound_energies b p (energies_of t o) ok.sound lp free (sound_told t o (omega (arith, ok.sound.buyers_few)) below b.register.buyers count (positive _ (eqb-false _ _ total.0)));
        tells = record {
          told = λ h. at_place b.hours p h _ Blank l (λ v x. energies_in x ≡ cond v (Some (energies_of t o)) (last_told h cs)) (λ _. anew_energies (hour_at b p) (energies_of t o)) (λ _. ok.tells.told h);
          lines = ok.tells.lines;
          allots = λ h. at_place b.hours p h _ Blank l (λ v x. is_allotted x ≡ last_allots h cs) (λ e. anew_allotted (hour_at b p) (energies_of t o) ∙ ap (λ j. is_allotted (hour_at b j)) (sym e) ∙ ok.tells.allots h) (λ _. ok.tells.allots h);
          slips = λ x. at_place b.hours p (place x.day x.hour) _ Blank l (λ v y. copies x (unspent b.register cs) ≡ once (of_book b.register x && is_correcting y)) (λ e. slips_here x p e ∙ ap (λ u. once (of_book b.register x && u)) (sym (anew_correcting (hour_at b p) (energies_of t o)))) (λ _. ok.tells.slips x);
        };
      }

  -- a line replaced, as the calls say
  kept_line : (c : Call) (p q : ℕ) (o : Option Settling) → p < hours_of b.register → q < b.register.enrolled → is_allotted (hour_at b p) ≡ false
      → ((h : ℕ) → last_told h cs ≡ last_told h (c ∷ cs))
      → ((h r : ℕ) → standing h r (c ∷ cs) ≡ cond (eqb h p && eqb r q) o (standing h r cs))
      → ((h : ℕ) → last_allots h cs ≡ last_allots h (c ∷ cs))
      → unspent b.register (c ∷ cs) ≡ unspent b.register cs
      → Kept (with_line b p q (line_of b.register o)) (c ∷ cs)
  kept_line c p q o lp lq free told stands allots slips = record {
    sound = sound_line b p q _ ok.sound lp lq free;
    tells = record {
      told = λ h. ok.tells.told h ∙ told h;
      lines = λ h r lh lr.
          read_row b.lines b.register.enrolled p q h r _ no_line lq lr (omega (arith, ok.sound.lines_long, row_within b.register.enrolled p (hours_of b.register) lp))
          ∙ ap (cond (eqb h p && eqb r q) (line_of b.register o)) (ok.tells.lines h r lh lr)
          ∙ cond_ap (line_of b.register) (eqb h p && eqb r q) o (standing h r cs)
          ∙ ap (line_of b.register) (sym (stands h r));
      allots = λ h. ok.tells.allots h ∙ allots h;
      slips = λ x. ap (copies x) slips ∙ ok.tells.slips x;
    };
  }

  pub kept_settle : (q : Settling) → refusal (settle q) b ≡ None → Kept (effect (settle q) b) (settle q ∷ cs)
  kept_settle q no-fault =
      let pass = passed (tests (settle q) b) no-fault in
      kept_line (settle q) (place q.day q.hour) q.resource (Some q)
      (within_month b.register q.day q.hour (month q.day q.hour _ (pass 1))) (ltb-true _ _ (not-false _ (not_refused _ _ (pass 2)))) (not_refused _ _ (pass 3))
      (λ _. refl) (λ _ _. refl) (λ _. refl) refl

  pub kept_withdraw : (r day hour : ℕ) → refusal (withdraw r day hour) b ≡ None → Kept (effect (withdraw r day hour) b) (withdraw r day hour ∷ cs)
  kept_withdraw r day hour no-fault =
      let pass = passed (tests (withdraw r day hour) b) no-fault in
      kept_line (withdraw r day hour) (place day hour) r None
      (within_month b.register day hour (month day hour _ (pass 1))) (ltb-true _ _ (not-false _ (not_refused _ _ (pass 2)))) (not_refused _ _ (pass 3))
      (λ _. refl) (λ _ _. refl) (λ _. refl) refl

  -- an hour stepped and its row of charges written, as the calls say
  kept_row : (c : Call) (p : ℕ) (new : Hour Energies) (row : ℕ → BuyerLine) → p < hours_of b.register → energies_in new ≡ energies_in (hour_at b p)
      → (is_allotted new ≡ true → (k : ℕ) → row k ≡ charges_of (paid_in b p) (fined_in b p) (purchases_in (energies_in new)) k)
      → ((h : ℕ) → last_told h cs ≡ last_told h (c ∷ cs))
      → ((h r : ℕ) → standing h r cs ≡ standing h r (c ∷ cs))
      → ((h : ℕ) → cond (eqb h p) (is_allotted new) (last_allots h cs) ≡ last_allots h (c ∷ cs))
      → ((x : Slip) → copies x (unspent b.register (c ∷ cs)) ≡ cond (eqb (place x.day x.hour) p) (once (of_book b.register x && is_correcting new)) (copies x (unspent b.register cs)))
      → Kept (with_row b p new row) (c ∷ cs)
  kept_row c p new row lp same right told stands allots slips =
      let l = within_hours b p ok.sound lp in
      record {
        sound = sound_row b p new row ok.sound lp same right;
        tells = record {
          told = λ h. at_place b.hours p h _ Blank l (λ _ x. energies_in x ≡ last_told h cs) (λ e. same ∙ ap (λ j. energies_in (hour_at b j)) (sym e) ∙ ok.tells.told h) (λ _. ok.tells.told h) ∙ told h;
          lines = λ h r lh lr. ok.tells.lines h r lh lr ∙ ap (line_of b.register) (stands h r);
          allots = λ h. at_place b.hours p h _ Blank l (λ t x. is_allotted x ≡ cond t (is_allotted new) (last_allots h cs)) (λ _. refl) (λ _. ok.tells.allots h) ∙ allots h;
          slips = λ x. slips x ∙ at_place b.hours p (place x.day x.hour) _ Blank l (λ t y. cond t (once (of_book b.register x && is_correcting new)) (copies x (unspent b.register cs)) ≡ once (of_book b.register x && is_correcting y)) (λ _. refl) (λ _. ok.tells.slips x);
        };
      }

  -- a cond that keeps one of its ways
  keeps : (m n k : ℕ) (x : ℕ) → (m ≡ n → k ≡ x) → k ≡ cond (eqb m n) x k
  keeps m n k x e = grind (arith, nat_tests)

  pub kept_allot : (day hour : ℕ) → refusal (allot day hour) b ≡ None → Kept (effect (allot day hour) b) (allot day hour ∷ cs)
  kept_allot day hour no-fault =
      let pass = passed (tests (allot day hour) b) no-fault in
      let p : ℕ = place day hour in
      let was = hour_at b p in
      let free = not_refused _ _ (pass 3) in
      kept_row (allot day hour) p (as_allotted was) _ (within_month b.register day hour (month day hour _ (pass 1))) (allotted_energies was)
      (λ _ k. ap (λ o. charges_of (paid_in b p) (fined_in b p) (purchases_in o) k) (sym (allotted_energies was)))
      (λ _. refl) (λ _ _. refl)
      (λ h. ap (λ t. cond (eqb h p) t (last_allots h cs)) (told_allots was (not_refused _ _ (pass 4))))
      (λ x. keeps (place x.day x.hour) p _ _ (λ e. slips_here x p e ∙ ap (λ u. once (of_book b.register x && u)) (free ∙ sym (none_correcting was))))

  pub kept_reopen : (day hour : ℕ) → refusal (reopen day hour) b ≡ None → Kept (effect (reopen day hour) b) (reopen day hour ∷ cs)
  kept_reopen day hour no-fault =
      let pass = passed (tests (reopen day hour) b) no-fault in
      let p : ℕ = place day hour in
      let was = hour_at b p in
      let inside = month day hour _ (pass 1) in
      let shut = not-false _ (not_refused _ _ (pass 2)) in
      let s = b.register in
      let ours = and_from (eqb s.number s.number) (in_month s day hour) (eq-eqb s.number s.number refl) inside in
      kept_row (reopen day hour) p (as_correcting was) _ (within_month s day hour inside) (correcting_energies was)
      (λ q k. absurd (both_ways (is_allotted (as_correcting was)) (none_allotted was) q))
      (λ _. refl) (λ _ _. refl)
      (λ h. ap (λ t. cond (eqb h p) t (last_allots h cs)) (none_allotted was))
      (λ x. ap (λ t. cond t (copies x (unspent s cs) + 1) (copies x (unspent s cs))) (slips_meet s x (slip_for s day hour) ours)
      ∙ turn (λ n. n + 1) (of_book s x) (place x.day x.hour) p (copies x (unspent s cs)) (is_correcting was) (is_correcting (as_correcting was))
      (ap (λ t. once t + 1) (not_correcting was shut) ∙ ap once (sym (allotted_corrects was shut))) (slips_here x p))

  pub kept_finish : (slip : Slip) → refusal (finish slip) b ≡ None → Kept (effect (finish slip) b) (finish slip ∷ cs)
  kept_finish slip no-fault =
      let pass = passed (tests (finish slip) b) no-fault in
      let p : ℕ = place slip.day slip.hour in
      let was = hour_at b p in
      let s = b.register in
      let ours = not-false _ (not_refused _ _ (pass 1)) in
      let right = and_parts _ _ ours in
      let out = not-false _ (not_refused _ _ (pass 2)) in
      kept_row (finish slip) p (as_allotted was) _ (within_month s slip.day slip.hour right.1) (allotted_energies was)
      (λ _ k. ap (λ o. charges_of (paid_in b p) (fined_in b p) (purchases_in o) k) (sym (allotted_energies was)))
      (λ _. refl) (λ _ _. refl)
      (λ h. ap (λ t. cond (eqb h p) t (last_allots h cs)) (told_allots was (correcting_told was out)))
      (λ x. copies_without x slip (unspent s cs)
      ∙ ap (λ t. cond t (copies x (unspent s cs) - 1) (copies x (unspent s cs))) (slips_meet s x slip ours)
      ∙ turn (λ n. n - 1) (of_book s x) (place x.day x.hour) p (copies x (unspent s cs)) (is_correcting was) (is_correcting (as_allotted was))
      (ap (λ t. once t - 1) out ∙ ap once (sym (none_correcting was))) (slips_here x p))
