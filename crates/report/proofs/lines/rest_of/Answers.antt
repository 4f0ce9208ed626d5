use Rattle.std.proofs.Common.{◌≡◌, ℕ, ◌+◌, ◌-◌, true, false, cond, leb, List, [], ◌∷◌, Ok, Err, fold, sum, Result, sym, refl, ap, ◌∙◌, inl, inr, arith, rules, tests}
use Rattle.std.proofs.lemmas.Bool.{cases_Bool, cond-true, cond-false}
use Rattle.std.proofs.lemmas.Bool.Decides.{nat_tests}
use Rattle.std.proofs.lemmas.Iterator.{YieldsList-from_slice}
use Rattle.std.proofs.lemmas.List.Sums.{sum_by-cons}
use Rattle.report.specs.declared.fault.Fault.{Fault}
use Rattle.report.specs.declared.fault.Fault.TheVariants.{OutOfRange}
use Rattle.report.proofs.Folds.{fold_from_try_fold}
use Rattle.report.proofs.lines.rest_of.Goals as goal

abbrev less : Result ℕ Fault → ℕ → Result ℕ Fault
less (Err fault) n = Err fault
less (Ok rest) n = cond (leb n rest) (Ok (rest - n)) (Err OutOfRange)

stuck : (ns : List ℕ) → fold less (Err OutOfRange) ns ≡ Err OutOfRange
stuck [] = refl
stuck (n ∷ ns) = stuck ns

abbrev left : ℕ → ℕ → Result ℕ Fault
left total taken = cond (leb taken total) (Ok (total - taken)) (Err OutOfRange)

one : (total n taken : ℕ) → leb n total ≡ true → left (total - n) taken ≡ left total (n + taken)
one total n taken e = grind (arith, nat_tests)

past : (total n taken : ℕ) → leb n total ≡ false → Err OutOfRange ≡ left total (n + taken)
past total n taken e = grind (arith, nat_tests)

all : (total : ℕ) (ns : List ℕ) → fold less (Ok total) ns ≡ left total (sum ns)
all total [] = grind (arith, nat_tests)
all total (n ∷ ns) =
    elim (cases_Bool (leb n total)) [
      | inl e ↦ ap (λ r. fold less r ns) (cond-true _ _ _ e) ∙ all (total - n) ns ∙ one total n (sum ns) e ∙ ap (left total) (sym (sum_by-cons (λ x. x) n ns))
      | inr e ↦ ap (λ r. fold less r ns) (cond-false _ _ _ e) ∙ stuck ns ∙ past total n (sum ns) e ∙ ap (left total) (sym (sum_by-cons (λ x. x) n ns))
    ]

pub returns : goal.returns
returns c =
    record { value = fold_from_try_fold _ less _ (λ a x w q p. search (rules, tests)) (λ e b. refl) _ c.args.total c.try_fold.result c.try_fold.ensures.ran (YieldsList-from_slice c.args.taken.now c.iter.ensures.rest) ∙ all c.args.total c.args.taken.now }
