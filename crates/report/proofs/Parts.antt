-- The pieces of a text, as the library cuts it.
use Rattle.std.proofs.Common.{◌≡◌, ℕ, zero, suc, ◌<◌, Bool, true, false, cond, eqb, List, [], ◌∷◌, ◌++◌, length, get_or, drop, Some, None, Option, MatchOption, unwrap_or, subst, sym, refl, ap, ◌∙◌, inl, inr, ◌⊎◌, Bor, arith}
use Rattle.std.specs.Iterator.Adapters.{enumerate_source, enumerate_count, enumerate_steps, skip_source, skip_count, skip_steps}
use Rattle.std.specs.List.{enumerate_from, slice_split, onto_first}
use Rattle.std.specs.Str.Iter.{split_steps, split_text, split_has_more, split_pattern, split_terminator_steps, split_terminator_parts, split_terminator_pattern}
use Rattle.std.specs.Str.Pattern.{FindsChar}
use Rattle.std.proofs.lemmas.List.{nil_from_length}
use Rattle.std.proofs.lemmas.Bool.{cases_Bool, cond-true, cond-false, eq-eqb, ne_eqb}
use Rattle.std.proofs.lemmas.Iterator.{YieldsList}
use Rattle.std.proofs.lemmas.Iterator.Adapters.{YieldsList-from_skip}
use Rattle.std.proofs.lemmas.Iterator.Consumers.{YieldsList-at, YieldsList-from_enumerate}
use Rattle.std.proofs.lemmas.Iterator.Splits.{YieldsList-from_str_split, YieldsList-from_shown_while}
use Rattle.std.proofs.iter.runs.Bytes.{all, Other}
use Rattle.std.proofs.iter.runs.Splits.{piece}
use Rattle.std.proofs.lemmas.Str.Pattern.{IsSplitOnceResult, split_parts}
use Rattle.report.specs.Pieces.{before, onto, pieces, lines_of, word_of, fields_of}

abbrev Lacks : ℕ → List ℕ → Type 0
Lacks s bs = (i : ℕ) → i < length bs → get_or bs i 0 ≡ s → ⊥

first_lacks : (s b : ℕ) (bs : List ℕ) → Lacks s (b ∷ bs) → eqb b s ≡ false
first_lacks s b bs no' = ne_eqb b s (no' 0 (omega arith))

rest_lacks : (s b : ℕ) (bs : List ℕ) → Lacks s (b ∷ bs) → Lacks s bs
rest_lacks s b bs no' i h = no' (suc i) (omega arith)

before_found : (s : ℕ) (xs ys : List ℕ) → Lacks s xs → before s (xs ++ (s ∷ ys)) ≡ xs
before_found s [] ys no' = cond-true _ _ _ (eq-eqb s s refl)
before_found s (x ∷ xs) ys no' =
    cond-false _ _ _ (first_lacks s x xs no') ∙ ap (λ l. x ∷ l) (before_found s xs ys (rest_lacks s x xs no'))

before_none : (s : ℕ) (bs : List ℕ) → Lacks s bs → before s bs ≡ bs
before_none s [] no' = refl
before_none s (b ∷ bs) no' = cond-false _ _ _ (first_lacks s b bs no') ∙ ap (λ l. b ∷ l) (before_none s bs (rest_lacks s b bs no'))

-- the word of a line, from where `split_once` cuts it
pub word_cut : (line : List ℕ) (r : Option (Bor (List ℕ) × Bor (List ℕ))) (whole : Bor (List ℕ) × Bor (List ℕ)) → whole.0.now ≡ line → IsSplitOnceResult 32 line r → (unwrap_or r whole).0.now ≡ word_of line
word_cut line None whole e h = e ∙ sym (before_none 32 line (split_parts 32 line None h (omega arith)))
word_cut line (Some p) whole e h =
    let m = split_parts 32 line (Some p) h (omega arith) in
    sym (ap (before 32) m.0 ∙ before_found 32 p.0.now p.1.now m.1)

onto_is : (b : ℕ) (ps : List (List ℕ)) → onto b ps ≡ onto_first b ps
onto_is b [] = refl
onto_is b (p ∷ ps) = refl

pieces_split : (s : ℕ) (bs : List ℕ) → pieces ([] ∷ []) s bs ≡ slice_split (λ b. eqb b s) bs
pieces_split s [] = refl
pieces_split s (b ∷ bs) =
    let parts = slice_split (λ x. eqb x s) bs in
    ap (λ (ps : List (List ℕ)). cond (eqb b s) ([] ∷ ps) (onto b ps)) (pieces_split s bs) ∙ ap (cond (eqb b s) ([] ∷ parts)) (onto_is b parts)

past_first : (b : ℕ) (ps : List (List ℕ)) → drop 1 (onto_first b ps) ≡ drop 1 ps
past_first b [] = refl
past_first b (p ∷ ps) = refl

-- the fields of a line are what `split` gives behind its first piece
pub fields_split : (line : List ℕ) → drop 1 (slice_split (λ b. eqb b 32) line) ≡ fields_of line
fields_split [] = refl
fields_split (b ∷ bs) =
    elim (cases_Bool (eqb b 32)) [
      | inl e ↦ simp e (sym (pieces_split 32 bs))
      | inr e ↦ simp e (past_first b (slice_split (λ x. eqb x 32) bs) ∙ fields_split bs)
    ]

-- what `split` gives of a line behind its first piece
pub fields_yielded : {s : _} {from : _} {i : _} (line : List ℕ) → split_text {P = ℕ} s ≡ line → split_has_more s ≡ true → split_pattern s ≡ 32 → skip_source from ≡ s → skip_count from ≡ 1 → i ≡ from → YieldsList (skip_steps (split_steps FindsChar (λ a b. b ≡ a))) (λ x. x.now) i (fields_of line)
fields_yielded {i = i} line text more pattern source count at =
    subst (YieldsList (skip_steps (split_steps FindsChar (λ a b. b ≡ a))) (λ x. x.now) i) (fields_split line)
    (YieldsList-at at (YieldsList-from_skip 1 (YieldsList-at source (YieldsList-from_str_split 32 line (omega arith) text more pattern)) count))

lacks_all : (s : ℕ) (bs : List ℕ) → all (Other s) bs → Lacks s bs
lacks_all s [] h i l = absurd (omega arith)
lacks_all s (b ∷ bs) h zero l = h.0
lacks_all s (b ∷ bs) h (suc i) l = lacks_all s bs h.1 i (omega arith)

line_found : (xs ys : List ℕ) → Lacks 10 xs → lines_of (xs ++ (10 ∷ ys)) ≡ xs ∷ lines_of ys
line_found [] ys no' = refl
line_found (x ∷ xs) ys no' = cond-false _ _ _ (first_lacks 10 x xs no') ∙ ap (onto x) (line_found xs ys (rest_lacks 10 x xs no'))

last_line : (bs : List ℕ) → 0 < length bs → Lacks 10 bs → lines_of bs ≡ bs ∷ []
last_line [] some no' = absurd (omega arith)
last_line (b ∷ []) some no' = cond-false _ _ _ (first_lacks 10 b [] no')
last_line (b ∷ (x ∷ xs)) some no' = cond-false _ _ _ (first_lacks 10 b (x ∷ xs) no') ∙ ap (onto b) (last_line (x ∷ xs) (omega arith) (rest_lacks 10 b (x ∷ xs) no'))

-- the lines that are left
abbrev left : Bool → List ℕ → List (List ℕ)
left more text = cond more (lines_of text) []

none_left : (text : List ℕ) (o : Option (ℕ × ℕ)) → FindsChar 10 text o → MatchOption o (length text ≡ 0) (λ q. q.1 ≡ 0) → length text ≡ 0
none_left text None f e = e
none_left text (Some q) f e = absurd (omega (arith, f.1.ends))

all_read : (more : Bool) (text : List ℕ) → (more ≡ true → (o : Option (ℕ × ℕ)) × FindsChar 10 text o × MatchOption o (length text ≡ 0) (λ q. q.1 ≡ 0)) → length (left more text) ≡ 0
all_read false text h = refl
all_read true text h = ap (λ t. length (lines_of t)) (nil_from_length text (none_left text (h refl).0 (h refl).1 (h refl).2))

next_read : (w x rest : List ℕ) (live : Bool) → ((x ≡ w) × (live ≡ false)) ⊎ ((live ≡ true) × (w ≡ x ++ (10 ∷ rest))) → Lacks 10 x → (length x ≡ 0 → live ≡ true) → lines_of w ≡ x ∷ left live rest
next_read w x rest live (inl h) no' some =
    let empty : length x ≡ 0 → ⊥ = λ z. let a = some z in let b = h.1 in cc in
    ap lines_of (sym h.0) ∙ last_line x (omega arith) no' ∙ ap (λ more. x ∷ left more rest) (sym h.1)
next_read w x rest live (inr h) no' some = ap lines_of h.1 ∙ line_found x rest no' ∙ ap (λ more. x ∷ left more rest) (sym h.0)

-- what `split_terminator` gives of a text
pub lines_yielded : {s : _} (text : List ℕ) → split_text {P = ℕ} (split_terminator_parts s) ≡ text → split_has_more (split_terminator_parts s) ≡ true → split_terminator_pattern s ≡ 10 → YieldsList (split_terminator_steps FindsChar (λ a b. b ≡ a)) (λ x. x.now) s (lines_of text)
lines_yielded {s} text is more pattern =
    let shown = λ (t : _). left (split_has_more (split_terminator_parts t)) (split_text {P = ℕ} (split_terminator_parts t)) in
    subst (YieldsList (split_terminator_steps FindsChar (λ a b. b ≡ a)) (λ x. x.now) s) (λ i. left (more i) (is i))
    (YieldsList-from_shown_while (split_terminator_steps FindsChar (λ a b. b ≡ a)) (λ x. x.now) shown (λ t. split_terminator_pattern t ≡ 10)
    (λ t u h k. all_read (split_has_more (split_terminator_parts t)) (split_text (split_terminator_parts t)) (subst (λ d. split_has_more (split_terminator_parts t) ≡ true → (o : Option (ℕ × ℕ)) × FindsChar d (split_text (split_terminator_parts t)) o × MatchOption o (length (split_text (split_terminator_parts t)) ≡ 0) (λ q. q.1 ≡ 0)) h k.0))
    (λ t x u h k.
    let cut = k.2.1 in
    let m = piece 10 (omega arith) (split_text (split_terminator_parts t)) x.now (split_text (split_terminator_parts u)) (split_has_more (split_terminator_parts u)) cut.0 (subst (λ d. FindsChar d (split_text (split_terminator_parts t)) cut.0) h cut.1) cut.2 in
    (k.1 ∙ h, ap (λ b. left b (split_text (split_terminator_parts t))) k.0 ∙ next_read _ x.now _ _ m.1 (lacks_all 10 x.now m.0) k.3))
    s pattern)

-- the same, each line with its number
pub numbered_lines : {s : _} {from : _} {i : _} (text : List ℕ) → split_text {P = ℕ} (split_terminator_parts s) ≡ text → split_has_more (split_terminator_parts s) ≡ true → split_terminator_pattern s ≡ 10 → enumerate_source from ≡ s → enumerate_count from ≡ 0 → i ≡ from → YieldsList {B = ℕ × List ℕ} (enumerate_steps (split_terminator_steps FindsChar (λ a b. b ≡ a))) (λ p. (p.0, p.1.now)) i (enumerate_from 0 (lines_of text))
numbered_lines {s} text is more pattern source count at = YieldsList-at at (YieldsList-from_enumerate (YieldsList-at source (lines_yielded text is more pattern)) count)
