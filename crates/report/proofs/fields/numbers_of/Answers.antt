use Rattle.std.proofs.Common.{◌≡◌, ℕ, ◌+◌, ◌<◌, List, [], ◌∷◌, ◌++◌, length, take, Ok, Err, fold, Result, sym, refl, ap, ◌∙◌, arith}
use Rattle.std.proofs.lemmas.Bool.{cond-true, cond-false, eqb-true, eqb-false, lt-ltb, le-ltb}
use Rattle.std.proofs.lemmas.Iterator.Consumers.{YieldsList-turn, YieldsList-end}
use Rattle.std.proofs.lemmas.List.{length_push}
use Rattle.std.proofs.lemmas.Result.{err_from_is_err_and}
use Rattle.report.specs.declared.fault.Fault.{Fault}
use Rattle.report.specs.declared.fault.Fault.TheVariants.{TooManyNumbers}
use Rattle.report.specs.Numbers.{number_in, numbers_in, pushed, with_field}
use Rattle.report.specs.Pieces.{fields_of}
use Rattle.report.proofs.Folds.{fold_goes, fold_stops, fold_ends}
use Rattle.report.proofs.Parts.{fields_yielded}
use Rattle.report.proofs.fields.numbers_of.Goals as goal

stays : (fault : Fault) (field : List ℕ) → with_field (Err fault) field ≡ Err fault
stays fault field = refl

read : (ns field : List ℕ) (r : Result ℕ Fault) → length ns < 100 → r ≡ number_in field → with_field (Ok ns) field ≡ pushed ns r
read ns field r few is = cond-true _ _ _ (lt-ltb (length ns) 100 few) ∙ ap (pushed ns) (sym is)

pub returns-then-is_full : goal.returns-then-is_full
returns-then-is_full c =
    let l = c.loop-field in
    let ns : List ℕ = l.numbers.items in
    let full : length ns ≡ 100 = eqb-true (length ns) 100 (sym c.is_full.ensures.value ∙ c.if-is_full.true) in
    let turn = YieldsList-turn (fields_yielded c.args.line.now c.split.ensures.text c.split.ensures.has_more c.split.ensures.pattern c.skip-field-items.ensures.source c.skip-field-items.ensures.count c.into_iter-field-iterator.ensures.into_iter_gives) l.yielded _ l.yielded_by _ _ c.in-Some.field c.in-Some.is c.next.ensures.steps in
    record { value = fold_stops with_field stays [] (fields_of c.args.line.now) (length l.yielded) c.in-Some.field.now _ ns TooManyNumbers turn.0 turn.1 l.invariant.2 (cond-false _ _ _ (le-ltb (length ns) 100 (omega arith))) }

pub returns-in_err-number_of : goal.returns-in_err-number_of
returns-in_err-number_of c =
    let l = c.loop-field in
    let ns : List ℕ = l.numbers.items in
    let few : length ns ≡ 100 → ⊥ = eqb-false (length ns) 100 (sym c.is_full.ensures.value ∙ c.if-is_full.false) in
    let turn = YieldsList-turn (fields_yielded c.args.line.now c.split.ensures.text c.split.ensures.has_more c.split.ensures.pattern c.skip-field-items.ensures.source c.skip-field-items.ensures.count c.into_iter-field-iterator.ensures.into_iter_gives) l.yielded _ l.yielded_by _ _ c.in-Some.field c.in-Some.is c.next.ensures.steps in
    let told = err_from_is_err_and c.from_residual.result c.from_residual.ensures.1 in
    let fault : Fault = c.in_err-number_of.field-0.0 in
    let stops : numbers_in (fields_of c.args.line.now) ≡ Err fault = fold_stops with_field stays [] (fields_of c.args.line.now) (length l.yielded) c.in-Some.field.now _ ns fault turn.0 turn.1 l.invariant.2 (read ns c.in-Some.field.now (Err fault) (omega arith) c.in_err-number_of.ensures.value) in
    record { value = rw (told.1, told.2) stops }

pub loop-field-preserved : goal.loop-field-preserved
loop-field-preserved c =
    let l = c.loop-field in
    let ns : List ℕ = l.numbers.items in
    let turn = YieldsList-turn (fields_yielded c.args.line.now c.split.ensures.text c.split.ensures.has_more c.split.ensures.pattern c.skip-field-items.ensures.source c.skip-field-items.ensures.count c.into_iter-field-iterator.ensures.into_iter_gives) l.yielded _ l.yielded_by _ _ c.in-Some.field c.in-Some.is c.next.ensures.steps in
    let h = length_push l.yielded c.in-Some.field in
    let few : length ns ≡ 100 → ⊥ = eqb-false (length ns) 100 (sym c.is_full.ensures.value ∙ c.if-is_full.false) in
    let n : ℕ = c.in_ok-number_of.field-0 in
    let more : fold with_field (Ok []) (take (length l.yielded + 1) (fields_of c.args.line.now)) ≡ Ok (ns ++ (n ∷ [])) = fold_goes with_field stays [] (fields_of c.args.line.now) (length l.yielded) c.in-Some.field.now _ ns (ns ++ (n ∷ [])) turn.0 turn.1 l.invariant.2 (read ns c.in-Some.field.now (Ok n) (omega arith) c.in_ok-number_of.ensures.value) in
    (tt, tt, rw (h, c.push.ensures.items) more)

pub returns : goal.returns
returns c =
    let l = c.loop-field in
    let end = YieldsList-end (fields_yielded c.args.line.now c.split.ensures.text c.split.ensures.has_more c.split.ensures.pattern c.skip-field-items.ensures.source c.skip-field-items.ensures.count c.into_iter-field-iterator.ensures.into_iter_gives) l.yielded _ l.yielded_by _ _ c.in-None.is c.next.ensures.steps in
    record { value = fold_ends with_field stays [] (fields_of c.args.line.now) (length l.yielded) l.numbers.items (omega (arith, end.1)) l.invariant.2 }
