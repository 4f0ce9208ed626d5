use Rattle.std.proofs.Common.{◌≡◌, true, false, Some, None, ℕ, ◌+◌, ◌<◌, List, length, get_or, Ok, Err, Option, refl, sym, ap, ◌∙◌, arith, rules}
use Rattle.std.specs.List.{enumerate_from}
use Rattle.std.specs.Option.{is_some}
use Rattle.std.proofs.lemmas.Iterator.Consumers.{YieldsList-turn, YieldsList-end}
use Rattle.std.proofs.lemmas.List.{length_push}
use Rattle.std.proofs.lemmas.List.FromFn.{length-enumerate_from, get_or-enumerate_from}
use Rattle.std.proofs.lemmas.Result.{MatchResult-at_ok, MatchResult-at_err, err_from_is_err_and}
use Rattle.report.specs.declared.fault.BadLine.{BadLine}
use Rattle.report.specs.declared.fault.Fault.TheVariants.{NoDay}
use Rattle.report.specs.Asked.{Asked, after_line, day_named, lines_read}
use Rattle.report.specs.Pieces.{lines_of}
use Rattle.report.proofs.Parts.{numbered_lines}
use Rattle.report.proofs.Turns.{line_goes, line_stops, text_ends, numbered}
use Rattle.report.proofs.request.Request.read_lines.Goals as goal

-- the line that the loop has come to, and its number
line_at : (lines : List (List ℕ)) (n : ℕ) (p : ℕ × List ℕ) → (n < length (enumerate_from 0 lines)) × (p ≡ get_or (enumerate_from 0 lines) n p) → (n < length lines) × (p.0 ≡ n) × (p.1 ≡ get_or lines n p.1)
line_at lines n p h =
    let inside : n < length lines = omega (arith, length-enumerate_from 0 lines) in
    let is = h.1 ∙ get_or-enumerate_from 0 lines n p inside in
    let number = ap (λ (x : ℕ × List ℕ). x.0) is in
    (inside, omega arith, ap (λ (x : ℕ × List ℕ). x.1) is)

none_named : (k : ℕ) (o : Option ℕ) (a : Asked) → is_some o ≡ false → day_named k o a ≡ Err (record { line = k; fault = NoDay })
none_named k None a e = refl
none_named k (Some d) a e = cc

some_named : (k : ℕ) (o : Option ℕ) (a : Asked) → is_some o ≡ true → day_named k o a ≡ Ok a
some_named k None a e = cc
some_named k (Some d) a e = refl

pub loop-k-preserved : goal.loop-k-preserved
loop-k-preserved c =
    let l = c.loop-k in
    let lines : List (List ℕ) = lines_of c.args.text.now in
    let turn = line_at lines (length l.yielded) (c.in-Some.k, c.in-Some.line.now) (YieldsList-turn (numbered_lines c.args.text.now c.split_terminator.ensures.text c.split_terminator.ensures.has_more c.split_terminator.ensures.pattern c.enumerate-k-items.ensures.source c.enumerate-k-items.ensures.count c.into_iter-k-iterator.ensures.into_iter_gives) l.yielded _ l.yielded_by _ c.next.new.self (c.in-Some.k, c.in-Some.line) c.in-Some.is c.next.ensures.steps) in
    let left = numbered c.take_line.result c.map_err.result (c.in-Some.k + 1) (after_line c.in-Some.line.now l.self) l.self c.take_line.new.self c.map_err.ensures.cases (λ fault bad h. search rules) c.take_line.ensures.value in
    let goes = MatchResult-at_ok _ _ c.in_ok-map_err.field-0 c.in_ok-map_err.was left in
    let more = length_push l.yielded (c.in-Some.k, c.in-Some.line) in
    (ap (λ (n : ℕ). n + 1) turn.1 ∙ sym more, rw more (line_goes (length l.yielded) l.self c.take_line.new.self lines c.in-Some.line.now c.in-Some.line.now _ turn.0 turn.2 goes l.invariant.1))

pub returns-in_err-map_err : goal.returns-in_err-map_err
returns-in_err-map_err c =
    let l = c.loop-k in
    let lines : List (List ℕ) = lines_of c.args.text.now in
    let turn = line_at lines (length l.yielded) (c.in-Some.k, c.in-Some.line.now) (YieldsList-turn (numbered_lines c.args.text.now c.split_terminator.ensures.text c.split_terminator.ensures.has_more c.split_terminator.ensures.pattern c.enumerate-k-items.ensures.source c.enumerate-k-items.ensures.count c.into_iter-k-iterator.ensures.into_iter_gives) l.yielded _ l.yielded_by _ c.next.new.self (c.in-Some.k, c.in-Some.line) c.in-Some.is c.next.ensures.steps) in
    let left = numbered c.take_line.result c.map_err.result (c.in-Some.k + 1) (after_line c.in-Some.line.now l.self) l.self c.take_line.new.self c.map_err.ensures.cases (λ fault bad h. search rules) c.take_line.ensures.value in
    let bad : BadLine = c.in_err-map_err.field-0.0 in
    let stops = MatchResult-at_err _ _ bad c.in_err-map_err.was left in
    let told = err_from_is_err_and c.from_residual.result c.from_residual.ensures.1 in
    let whole = line_stops (length l.yielded) l.self lines c.in-Some.line.now c.in-Some.line.now bad _ turn.0 turn.2 (stops.0 ∙ ap (λ (n : ℕ). n + 1) turn.1, stops.1) l.invariant.1 in
    record { value = rw (told.1, told.2) whole }

pub returns-then-is_none : goal.returns-then-is_none
returns-then-is_none c =
    let l = c.loop-k in
    let lines : List (List ℕ) = lines_of c.args.text.now in
    let end = YieldsList-end (numbered_lines c.args.text.now c.split_terminator.ensures.text c.split_terminator.ensures.has_more c.split_terminator.ensures.pattern c.enumerate-k-items.ensures.source c.enumerate-k-items.ensures.count c.into_iter-k-iterator.ensures.into_iter_gives) l.yielded _ l.yielded_by _ c.next.new.self c.in-None.is c.next.ensures.steps in
    let ends : lines_read 0 (Ok c.args.self.now) lines ≡ day_named (length l.yielded) l.self.day l.self = text_ends (length l.yielded) l.self lines _ (omega (arith, end.1, length-enumerate_from 0 lines)) l.invariant.1 in
    let missing : is_some l.self.day ≡ false = ap (λ (a : Asked). is_some a.day) (sym c.self.view_is) ∙ c.if-is_none.ensures in
    record { value = ends ∙ none_named (length l.yielded) l.self.day l.self missing ∙ ap (λ (n : ℕ). Err (record { line = n; fault = NoDay })) (sym l.invariant.0) }

pub returns : goal.returns
returns c =
    let l = c.loop-k in
    let lines : List (List ℕ) = lines_of c.args.text.now in
    let end = YieldsList-end (numbered_lines c.args.text.now c.split_terminator.ensures.text c.split_terminator.ensures.has_more c.split_terminator.ensures.pattern c.enumerate-k-items.ensures.source c.enumerate-k-items.ensures.count c.into_iter-k-iterator.ensures.into_iter_gives) l.yielded _ l.yielded_by _ c.next.new.self c.in-None.is c.next.ensures.steps in
    let ends : lines_read 0 (Ok c.args.self.now) lines ≡ day_named (length l.yielded) l.self.day l.self = text_ends (length l.yielded) l.self lines _ (omega (arith, end.1, length-enumerate_from 0 lines)) l.invariant.1 in
    let there : is_some l.self.day ≡ true = ap (λ (a : Asked). is_some a.day) (sym c.self.view_is) ∙ c.if-is_none.ensures in
    record { value = ends ∙ some_named (length l.yielded) l.self.day l.self there }
