use Rattle.std.proofs.Common.{◌≡◌, ℕ, eqb, false, List, [], ◌∷◌, length, Ok, fold, refl, sym, ◌∙◌, rules}
use Rattle.std.proofs.lemmas.Iterator.Adapters.{YieldsList-from_bytes}
use Rattle.report.specs.Numbers.{with_digit, number_in}
use Rattle.report.proofs.Folds.{fold_from_try_fold}
use Rattle.report.proofs.fields.number_of.Goals as goal

some_digits : (bs : List ℕ) → eqb (length bs) 0 ≡ false → fold with_digit (Ok 0) bs ≡ number_in bs
some_digits [] e = cc
some_digits (b ∷ bs) e = refl

pub returns : goal.returns
returns c =
    let bs : List ℕ = c.args.field.now in
    let digits = fold_from_try_fold _ with_digit _ (λ a x w q p. search rules) (λ e b. refl) _ 0 c.try_fold.result c.try_fold.ensures.ran (YieldsList-from_bytes bs c.bytes.ensures.rest) in
    record { value = digits ∙ some_digits bs (sym c.is_empty.ensures ∙ c.if-is_empty.false) }
