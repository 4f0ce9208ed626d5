use Rattle.std.proofs.Common.{◌≡◌, ℕ, ◌<◌, List, [], ◌∷◌, ◌++◌, length, get_or, refl, ⊎_elim, ◌∙◌, length-append, arith, rules}
use Rattle.std.proofs.lemmas.List.{get_or_append_left, get_or_at}
use Rattle.std.proofs.lemmas.Bool.{cases_lt}
use Rattle.std.proofs.lemmas.Fn.{chained_keeps}
use Rattle.table.proofs.Filling.{filled_part}
use Rattle.table.proofs.table.clear.Goals as goal

abbrev each : {X : Type 0} → X → List X → Type 0
each d xs = (k : ℕ) → k < length xs → get_or xs k d ≡ d

each_more : {X : Type 0} (d : X) (xs : List X) (x : X) → each d xs → x ≡ d → each d (xs ++ x ∷ [])
each_more d xs x h e k l = ⊎_elim (λ m. get_or_append_left xs (x ∷ []) d k m ∙ h k m) (λ m. let p : k ≡ length xs = omega (arith, length-append xs (x ∷ [])) in rw p (get_or_at xs x [] d (length xs) refl ∙ e)) (cases_lt k (length xs))

pub returns : goal.returns
returns g c =
    let h = c.fill_with.ensures.ran in
    let all = chained_keeps _ (λ xs q. each g.L.Amounts.empty xs) (λ xs q x v i r. each_more g.L.Amounts.empty xs x i (search rules)) c.fill_with.new.self _ _ (λ k l. absurd (omega arith)) h.1 in
    record { value = filled_part c.args.lines.now c.fill_with.new.self c.args.from c.args.count c.min-from.result c.min-count.result _ g.L.Amounts.empty c.min-from.ensures c.min-count.ensures (search rules) (λ k l. all k (omega arith)) }
