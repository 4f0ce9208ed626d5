-- The lines of a text, one by one, as a loop reads them.
use Rattle.std.proofs.Common.{◌≡◌, ℕ, suc, ◌+◌, ◌<◌, ◌≤◌, List, [], ◌∷◌, length, get_or, drop, Ok, Err, MatchResult, Result, subst, sym, refl, ap, ◌∙◌, add-one}
use Rattle.std.specs.Result.{IsErrAnd}
use Rattle.std.proofs.lemmas.List.{at_drop_more, at_drop_all}
use Rattle.report.specs.declared.fault.BadLine.{BadLine}
use Rattle.report.specs.declared.fault.Fault.{Fault}
use Rattle.report.specs.Asked.{Asked, Leaves, after_line, at_line, day_named, lines_read}

abbrev Read : Type 0
Read = Result Asked BadLine

stuck : (k : ℕ) (bad : BadLine) (lines : List (List ℕ)) → lines_read k (Err bad) lines ≡ Err bad
stuck k bad [] = refl
stuck k bad (line ∷ lines) = stuck (suc k) bad lines

-- the line that stands at k is taken, and those behind it are left
step : (k : ℕ) (a : Asked) (r : Read) (lines : List (List ℕ)) (line d : List ℕ) (whole : Read) → k < length lines → line ≡ get_or lines k d → at_line (suc k) (after_line line a) ≡ r → lines_read k (Ok a) (drop k lines) ≡ whole → lines_read (suc k) r (drop (k + 1) lines) ≡ whole
step k a r lines line d whole some here is inv =
    ap (λ (x : Read). lines_read (suc k) x (drop (k + 1) lines)) (sym (ap (λ (l : List ℕ). at_line (suc k) (after_line l a)) (sym here) ∙ is))
    ∙ sym (at_drop_more (lines_read k (Ok a)) lines k d some)
    ∙ inv

pub line_goes : (k : ℕ) (a b : Asked) (lines : List (List ℕ)) (line d : List ℕ) (whole : Read) → k < length lines → line ≡ get_or lines k d → after_line line a ≡ Ok b → lines_read k (Ok a) (drop k lines) ≡ whole → lines_read (k + 1) (Ok b) (drop (k + 1) lines) ≡ whole
line_goes k a b lines line d whole some here is inv =
    ap (λ (n : ℕ). lines_read n (Ok b) (drop (k + 1) lines)) (add-one k)
    ∙ step k a (Ok b) lines line d whole some here (ap (at_line (suc k)) is) inv

pub line_stops : (k : ℕ) (a : Asked) (lines : List (List ℕ)) (line d : List ℕ) (bad : BadLine) (whole : Read) → k < length lines → line ≡ get_or lines k d → (bad.line ≡ k + 1) × (after_line line a ≡ Err bad.fault) → lines_read k (Ok a) (drop k lines) ≡ whole → whole ≡ Err bad
line_stops k a lines line d bad whole some here is inv =
    let numbered : at_line (suc k) (Err bad.fault) ≡ Err bad = ap (λ (n : ℕ). Err (record { line = n; fault = bad.fault })) (sym (add-one k) ∙ sym is.0) in
    sym (step k a (Err bad) lines line d whole some here (ap (at_line (suc k)) is.1 ∙ numbered) inv)
    ∙ stuck (suc k) bad (drop (k + 1) lines)

pub text_ends : (k : ℕ) (a : Asked) (lines : List (List ℕ)) (whole : Read) → length lines ≤ k → lines_read k (Ok a) (drop k lines) ≡ whole → whole ≡ day_named k a.day a
text_ends k a lines whole all inv = sym inv ∙ at_drop_all (lines_read k (Ok a)) lines k all

-- what a line leaves, once its fault has the line's number
pub numbered : {U : Type 0} (r : Result U Fault) (q : Result U BadLine) (n : ℕ) {P : Fault → BadLine → Type 0} (whole : Result Asked Fault) (entry exit : Asked) → MatchResult r (λ x. q ≡ Ok x) (λ fault. IsErrAnd q (P fault)) → ((fault : Fault) (bad : BadLine) → P fault bad → bad ≡ record { line = n; fault = fault }) → Leaves r whole entry exit → MatchResult q (λ _. whole ≡ Ok exit) (λ bad. (bad.line ≡ n) × (whole ≡ Err bad.fault))
numbered {U} (Ok u) q n whole entry exit is told left = subst (λ (z : Result U BadLine). MatchResult z (λ _. whole ≡ Ok exit) (λ bad. (bad.line ≡ n) × (whole ≡ Err bad.fault))) (sym is) left
numbered {U} (Err fault) (Ok u) n whole entry exit is told left = absurd is
numbered {U} (Err fault) (Err bad) n whole entry exit is told left =
    let e = told fault bad is in (ap (λ (b : BadLine). b.line) e, left.0 ∙ ap (λ (b : BadLine). Err b.fault) (sym e))
