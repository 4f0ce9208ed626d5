-- Every run of a book balances.
use Rattle.std.proofs.Common.{◌≡◌, ℕ, ◌+◌, ◌*◌, ◌<◌, ◌≤◌, Bool, true, false, cond, ◌&&◌, ltb, leb, List, [], ◌∷◌, length, get_or, ℤ, pos, ◌+ℤ◌, ◌-ℤ◌, ◌*ℤ◌, ◌<ℤ◌, Some, None, Ok, Err, Option, sym, refl, ap, ◌∙◌, subst, ap₂, ⊎_elim, zero-add, arith}
use Rattle.std.proofs.lemmas.Bool.{both_ways, cond-false, or_from, le-ltb, and_parts, leb-true, not-false, ltb-false, cases_lt}
use Rattle.refusal.specs.declared.Refusal.{Refusal}
use Rattle.refusal.specs.declared.Refusal.TheVariants.{ShortLists, BadClasses, BadFirstDay, ResourceCount, BuyerCount}
use Rattle.won.specs.Sums.{total_to}
use Rattle.won.proofs.Sums.{total_same}
use Rattle.share.specs.Shares.{share}
use Rattle.share.proofs.Sharing.{share_near, shares_below_add_up}
use Rattle.table.specs.Lines.{no_line, paid_of, fined_of}
use Rattle.table.proofs.Filling.{length_filled, read_filled}
use Rattle.table.proofs.Rows.{row_within}
use Rattle.book.specs.declared.energies.Energies.{Energies}
use Rattle.book.specs.declared.hour.Hour.{Hour}
use Rattle.book.specs.declared.hour.Hour.TheVariants.{Blank}
use Rattle.book.specs.declared.reconcile.Reconciliation.{Reconciliation}
use Rattle.book.specs.declared.register.Register.{Register}
use Rattle.book.specs.Hours.{is_none, is_allotted, is_correcting, energies_in}
use Rattle.book.specs.State.{State, hours_of, place, hour_at, charge_at, short_for, charged_in, refunded_in}
use Rattle.book.specs.Telling.{purchase}
use Rattle.book.specs.Calls.{Call, named, of_book, purchases_in, effect, refusal, state_by, after}
use Rattle.book.specs.Calls.Call.{tell, settle, withdraw, allot, reopen, finish}
use Rattle.book.specs.Opening.{Opening, month_has, plain_classes, opening_tests, opening_refusal, opened, register_of}
use Rattle.book.specs.Runs.{noted, accepted, last_told, last_allots, unspent, payments, fines, over_allotted, Balanced, Fair, WithinAWon, StatesExact, Law}
use Rattle.book.specs.Reconciled.{hour_sums, zeros, held_sums, sums_to, reconciled, by_calls, Upheld, Lawful}
use Rattle.book.proofs.Places.{all_same}
use Rattle.book.proofs.Purchases.{SoundEnergies}
use Rattle.book.proofs.Refused.{passed, not_refused, long_lists}
use Rattle.book.proofs.Slips.{held_counts}
use Rattle.book.proofs.History.{once, Kept, kept_tell, kept_settle, kept_withdraw, kept_allot, kept_reopen, kept_finish}

-- what an accepted opening says

few_days : (month days : ℕ) → month_has month days ≡ true → days ≤ 31
few_days month days e = grind arith

pub record Openable (o : Opening) (b : State) : Type 0 where
  pub days_few : length o.classes ≤ 31
  pub first_day_low : o.first_day ≤ 64
  pub resources_few : length o.resources ≤ 16
  pub buyers_few : o.buyers ≤ 8
  pub lines_long : hours_of (register_of o) * length o.resources ≤ length b.lines
  pub charges_long : hours_of (register_of o) * o.buyers ≤ length b.charges

pub openable : (o : Opening) (b : State) → opening_refusal o b ≡ None → Openable o b
openable o b e =
    let pass = passed (opening_tests o b) e in
    let classes = and_parts (month_has o.month (length o.classes)) (plain_classes o.classes) (not-false _ (not_refused _ BadClasses (pass 2))) in
    let resources = and_parts (leb 1 (length o.resources)) (leb (length o.resources) 16) (not-false _ (not_refused _ ResourceCount (pass 4))) in
    let buyers = and_parts (leb 1 o.buyers) (leb o.buyers 8) (not-false _ (not_refused _ BuyerCount (pass 6))) in
    let lists = long_lists (register_of o) b.lines b.charges (not_refused _ ShortLists (pass 7)) in
    record {
      days_few = few_days o.month (length o.classes) classes.0;
      first_day_low = ltb-false 64 o.first_day (not_refused _ BadFirstDay (pass 3));
      resources_few = leb-true (length o.resources) 16 resources.1;
      buyers_few = leb-true o.buyers 8 buyers.1;
      lines_long = lists.0;
      charges_long = lists.1;
    }

-- the start

kept_opened : (o : Opening) (u : State) → Openable o u → Kept (opened o u) []
kept_opened o u ok = record {
  sound = record {
    days_few = ok.days_few;
    buyers_few = ok.buyers_few;
    hours_long = refl;
    lines_long = rw length_filled ok.lines_long;
    charges_long = rw length_filled ok.charges_long;
    energies = λ h e q. absurd (both_ways (is_none (energies_in (hour_at b h))) (ap is_none q) (ap (λ x. is_none (energies_in x)) (empty h)));
    rows = λ h lh q. absurd (both_ways (is_allotted (hour_at b h)) (ap is_allotted (empty h)) q);
    past = λ h lh. empty h;
  };
  tells = record {
    told = λ h. ap energies_in (empty h);
    lines = λ h r lh lr.
        ap (λ j. get_or b.lines j no_line) (sym (zero-add (h * s.enrolled + r)))
        ∙ read_filled u.lines 0 (hours_of s * s.enrolled) (h * s.enrolled + r) (λ _. no_line) no_line (omega (arith, row_within s.enrolled h (hours_of s) lh)) (omega (arith, ok.lines_long, row_within s.enrolled h (hours_of s) lh));
    allots = λ h. ap is_allotted (empty h);
    slips = λ x. sym (ap (λ y. once (of_book s x && is_correcting y)) (empty (place x.day x.hour)) ∙ never (of_book s x));
  };
}
  where
    b : State
    b = opened o u

    s : Register
    s = register_of o

    empty : (h : ℕ) → hour_at b h ≡ Blank
    empty h = all_same 744 h Blank

    never : (t : Bool) → once (t && false) ≡ 0
    never t = grind arith

-- each call, and all calls

one_call : (b : State) (cs : List Call) (c : Call) → Kept b cs → refusal c b ≡ None → Kept (effect c b) (c ∷ cs)
one_call b cs (tell day hour t o) k = kept_tell b cs k day hour t o
one_call b cs (settle q) k = kept_settle b cs k q
one_call b cs (withdraw r day hour) k = kept_withdraw b cs k r day hour
one_call b cs (allot day hour) k = kept_allot b cs k day hour
one_call b cs (reopen day hour) k = kept_reopen b cs k day hour
one_call b cs (finish slip) k = kept_finish b cs k slip

either_way : (b : State) (cs : List Call) (c : Call) → Kept b cs → (o : Option Refusal) → refusal c b ≡ o → Kept (state_by o c b) (noted o c cs)
either_way b cs c k None e = one_call b cs c k e
either_way b cs c k (Some r) e = k

all_calls : (b : State) → Kept b [] → (cs : List Call) → Kept (after b cs) (accepted b cs)
all_calls b k [] = k
all_calls b k (c ∷ cs) = either_way (after b cs) (accepted b cs) c (all_calls b k cs) (refusal c (after b cs)) refl

same_register : (c : Call) (b : State) → (effect c b).register ≡ b.register
same_register c b = grind arith

register_by : (o : Option Refusal) (c : Call) (b : State) → (state_by o c b).register ≡ b.register
register_by o c b = grind (arith, same_register)

register_after : (b : State) (cs : List Call) → (after b cs).register ≡ b.register
register_after b [] = refl
register_after b (c ∷ cs) = register_by (refusal c (after b cs)) c (after b cs) ∙ register_after b cs

-- what follows for the hours

allotted_told : (x : Hour Energies) → is_allotted x ≡ true → is_none (energies_in x) ≡ false
allotted_told x e = grind arith

once_some : (t : Bool) → t ≡ ltb 0 (once t)
once_some t = grind arith

some_energies : (o : Option Energies) → is_none o ≡ false → (e : Energies) × (o ≡ Some e)
some_energies o e = grind arith

-- a share is near by the total told
near_total : (a : ℤ) (e : Energies) (k : ℕ) (n : ℕ) → SoundEnergies n e → WithinAWon (share a e.purchases k) a e k
near_total a e k n ok =
    let near = share_near a e.purchases k (subst (λ t. 0 < t) (sym ok.all) ok.some) in
    let P : ℕ → Type 0 = λ t. ((share a e.purchases k *ℤ pos t) <ℤ (a *ℤ pos (purchase e k) +ℤ pos t)) × ((a *ℤ pos (purchase e k)) <ℤ (share a e.purchases k *ℤ pos t +ℤ pos t)) in
    let told = subst P ok.all near in
    record { above = told.0; below = told.1 }

module _ (b : State) (cs : List Call) (k : Kept b cs) where
  -- an allotted hour's energies and charges, in the calls' words
  record Allotment (h : ℕ) : Type 0 where
    energies : Energies
    told : last_told h cs ≡ Some energies
    right : SoundEnergies b.register.buyers energies
    charge : (j : ℕ) → j < b.register.buyers → (charge_at b h j).charge ≡ share (payments b.register cs h) energies.purchases j
    refund : (j : ℕ) → j < b.register.buyers → (charge_at b h j).refund ≡ share (fines b.register cs h) energies.purchases j

  -- an allotted hour is one of the month
  allotted_within : (h : ℕ) → last_allots h cs ≡ true → h < hours_of b.register
  allotted_within h a =
      ⊎_elim (λ l. l) (λ l. absurd (both_ways (is_allotted (hour_at b h)) (ap is_allotted (k.sound.past h l)) (k.tells.allots h ∙ a))) (cases_lt h (hours_of b.register))

  allotment : (h : ℕ) → last_allots h cs ≡ true → Allotment h
  allotment h a =
      let l = allotted_within h a in
      let st = k.tells.allots h ∙ a in
      let some = some_energies (energies_in (hour_at b h)) (allotted_told (hour_at b h) st) in
      let row = k.sound.rows h l st in
      record {
        energies = some.0;
        told = sym (k.tells.told h) ∙ some.1;
        right = k.sound.energies h some.0 some.1;
        charge = λ j lj. ap (λ x. x.charge) (row.charges j lj) ∙ ap₂ (λ p o. share p (purchases_in o) j) (total_same b.register.enrolled _ _ (λ r lr. ap paid_of (k.tells.lines h r l lr))) some.1;
        refund = λ j lj. ap (λ x. x.refund) (row.charges j lj) ∙ ap₂ (λ p o. share p (purchases_in o) j) (total_same b.register.enrolled _ _ (λ r lr. ap fined_of (k.tells.lines h r l lr))) some.1;
      }

  add_up : (a : ℤ) (e : Energies) → SoundEnergies b.register.buyers e → total_to b.register.buyers (share a e.purchases) ≡ a
  add_up a e ok = shares_below_add_up a e.purchases b.register.buyers (subst (λ t. 0 < t) (sym ok.all) ok.some) ok.past

  charges_are : (h : ℕ) → last_allots h cs ≡ true → charged_in b h ≡ payments b.register cs h
  charges_are h a = let m = allotment h a in total_same b.register.buyers _ _ m.charge ∙ add_up _ m.energies m.right

  refunds_are : (h : ℕ) → last_allots h cs ≡ true → refunded_in b h ≡ fines b.register cs h
  refunds_are h a = let m = allotment h a in total_same b.register.buyers _ _ m.refund ∙ add_up _ m.energies m.right

  if_allotted : (t : Bool) (x y : ℤ) → (t ≡ true → x ≡ y) → cond t x (pos 0) ≡ cond t y (pos 0)
  if_allotted t x y e = grind arith

  over_same : (f g : ℕ → ℤ) → ((h : ℕ) → last_allots h cs ≡ true → f h ≡ g h) → over_allotted b.register cs f ≡ over_allotted b.register cs g
  over_same f g e = total_same (hours_of b.register) _ _ (λ h l. if_allotted (last_allots h cs) (f h) (g h) (e h))

  balanced : Balanced b.register b cs
  balanced =
      let c = over_same (charged_in b) (payments b.register cs) charges_are in
      let r = over_same (refunded_in b) (fines b.register cs) refunds_are in
      record { hour_net = λ h a. ap₂ ◌-ℤ◌ (charges_are h a) (refunds_are h a); hour_gross = charges_are; net = ap₂ ◌-ℤ◌ c r; gross = c }

  fair : Fair b.register b cs
  fair h j a lj =
      let m = allotment h a in (
        m.energies,
        m.told,
        subst (λ w. WithinAWon w (payments b.register cs h) m.energies j) (sym (m.charge j lj)) (near_total (payments b.register cs h) m.energies j _ m.right),
        subst (λ w. WithinAWon w (fines b.register cs h) m.energies j) (sym (m.refund j lj)) (near_total (fines b.register cs h) m.energies j _ m.right),
      )

  exact : StatesExact b.register b cs
  exact = record {
    allotted = k.tells.allots;
    correcting = λ slip. once_some (of_book b.register slip && is_correcting (named b slip.day slip.hour)) ∙ ap (ltb 0) (sym (k.tells.slips slip)) ∙ sym (held_counts slip (unspent b.register cs));
    past = k.sound.past;
  }

  law : Law b.register b cs
  law = record { balanced = balanced; fair = fair; exact = exact }

  -- the book's own sums are what the calls say

  held_is : (h : ℕ) → (f : Reconciliation → ℤ) → f zeros ≡ pos 0 → (amount : ℕ → ℤ) → (last_allots h cs ≡ true → f (hour_sums b h) ≡ amount h)
      → f (held_sums b h) ≡ cond (last_allots h cs) (amount h) (pos 0)
  held_is h f none amount e = go (is_allotted (hour_at b h)) (last_allots h cs) (k.tells.allots h) e
    where
      go : (t u : Bool) → t ≡ u → (u ≡ true → f (hour_sums b h) ≡ amount h) → f (cond t (hour_sums b h) zeros) ≡ cond u (amount h) (pos 0)
      go t u q g = grind arith

  figures : reconciled b ≡ Ok (by_calls b.register cs)
  figures =
      let paid = total_same (hours_of b.register) _ _ (λ h l. held_is h (λ x. x.payments) refl (payments b.register cs) (λ _. total_same b.register.enrolled _ _ (λ r lr. ap paid_of (k.tells.lines h r l lr)))) in
      let fined = total_same (hours_of b.register) _ _ (λ h l. held_is h (λ x. x.fines) refl (fines b.register cs) (λ _. total_same b.register.enrolled _ _ (λ r lr. ap fined_of (k.tells.lines h r l lr)))) in
      let charged = total_same (hours_of b.register) _ _ (λ h l. held_is h (λ x. x.charges) refl (payments b.register cs) (charges_are h)) in
      let refunded = total_same (hours_of b.register) _ _ (λ h l. held_is h (λ x. x.refunds) refl (fines b.register cs) (refunds_are h)) in
      cond-false (short_for b.register b.lines b.charges) (Err ShortLists) (Ok (sums_to b (hours_of b.register))) (or_from _ _ (le-ltb (length b.lines) (hours_of b.register * b.register.enrolled) k.sound.lines_long) (le-ltb (length b.charges) (hours_of b.register * b.register.buyers) k.sound.charges_long))
      ∙ (λ i. Ok (record { payments = paid i; fines = fined i; charges = charged i; refunds = refunded i }))

-- every accepted opening and every list of calls; nothing is asked of the slips that finishings are given
pub lawful : (b : State) → Lawful b (reconciled b)
lawful b o u calls run =
    let start = opened o u in
    let cs = accepted start calls in
    let k = all_calls start (kept_opened o u (openable o u run.opens)) calls in
    subst (λ x. Upheld x (reconciled x) (register_of o) cs) (sym run.leads) (subst (λ x. Upheld (after start calls) (reconciled (after start calls)) x cs) (register_after start calls) (record { law = law (after start calls) cs k; figures = figures (after start calls) cs k }))
