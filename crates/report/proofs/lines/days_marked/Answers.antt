use Rattle.std.proofs.Common.{◌≡◌, ℕ, eqb, false, List, [], ◌∷◌, length, get_or, set, Ok, fold, sym, refl, ◌∙◌, arith, length-set}
use Rattle.std.proofs.lemmas.Bool.{cond-true, cond-false, lt-ltb, le-ltb}
use Rattle.report.specs.declared.fault.Fault.TheVariants.{OutOfRange}
use Rattle.report.specs.Lines.{with_day, days_marked}
use Rattle.report.proofs.Folds.{fold_goes, fold_stops, fold_ends}
use Rattle.report.proofs.lines.days_marked.Goals as goal

some_days : (byte : ℕ) (days table : List ℕ) → eqb (length days) 0 ≡ false → days_marked byte days table ≡ fold (with_day byte) (Ok table) days
some_days byte [] table e = cc
some_days byte (d ∷ ds) table e = refl

pub returns-then-day-ge-DAYS : goal.returns-then-day-ge-DAYS
returns-then-day-ge-DAYS c =
    let days : List ℕ = c.args.days.now in
    let l = c.loop-day in
    let d : ℕ = get_or days l.day-index 0 in
    record { value = sym (some_days c.args.byte days c.args.table (sym c.is_empty.ensures ∙ c.if-is_empty.false) ∙ fold_stops (with_day c.args.byte) (λ e x. refl) c.args.table days l.day-index d 0 l.table OutOfRange c.loop-day-test.true refl l.invariant.1 (cond-false _ _ _ (le-ltb d 96 (omega arith)))) }

pub loop-day-preserved : goal.loop-day-preserved
loop-day-preserved c =
    let days : List ℕ = c.args.days.now in
    let l = c.loop-day in
    let d : ℕ = get_or days l.day-index 0 in
    (length-set l.table d c.args.byte ∙ l.invariant.0, fold_goes (with_day c.args.byte) (λ e x. refl) c.args.table days l.day-index d 0 l.table (set l.table d c.args.byte) c.loop-day-test.true refl l.invariant.1 (cond-true _ _ _ (lt-ltb d 96 (omega arith))))

pub returns : goal.returns
returns c =
    let days : List ℕ = c.args.days.now in
    let l = c.loop-day in
    record { value = sym (some_days c.args.byte days c.args.table (sym c.is_empty.ensures ∙ c.if-is_empty.false) ∙ fold_ends (with_day c.args.byte) (λ e x. refl) c.args.table days l.day-index l.table c.loop-day-test.false l.invariant.1) }
