-- What the laws of sharing need of the weights: one place more adds its weight, all places together the total.
use Rattle.std.proofs.Common.{◌≡◌, ℕ, zero, suc, ◌+◌, ◌≤◌, List, length, get_or, sum, sym, ap, ◌∙◌, ⊎_elim, arith}
use Rattle.std.proofs.lemmas.List.{take_all, get_or_past}
use Rattle.std.proofs.lemmas.List.Sums.{sum_by_more, get_or-le-sum_by}
use Rattle.std.proofs.lemmas.Bool.{cases_lt}
use Rattle.share.specs.Shares.{weight_before}

-- the weights before a place, with one place more
pub weight_more : (ws : List ℕ) (k : ℕ) → weight_before ws (k + 1) ≡ weight_before ws k + get_or ws k 0
weight_more ws k = ⊎_elim (λ h. sum_by_more (λ x. x) ws k 0 h) past (cases_lt k (length ws))
  where
    past : length ws ≤ k → weight_before ws (k + 1) ≡ weight_before ws k + get_or ws k 0
    past h =
        let a = ap sum (take_all (k + 1) ws (omega arith)) in
        let b = ap sum (take_all k ws h) in
        let z = get_or_past ws k 0 h in
        omega arith

-- a weight is at most the total
pub weight_within : (ws : List ℕ) (k : ℕ) → get_or ws k 0 ≤ sum ws
weight_within ws k = ⊎_elim (λ h. get_or-le-sum_by (λ x. x) ws k 0 h) (λ h. let z = get_or_past ws k 0 h in omega arith) (cases_lt k (length ws))

-- all weights lie in the list
pub weight_all : (ws : List ℕ) (n : ℕ) → length ws ≤ n → weight_before ws n ≡ sum ws
weight_all ws n h = ap sum (take_all n ws h)

weight_past : (ws : List ℕ) (n m : ℕ) → ((k : ℕ) → n ≤ k → get_or ws k 0 ≡ 0) → weight_before ws (n + m) ≡ weight_before ws n
weight_past ws n zero h = let e : n + 0 ≡ n = omega arith in ap (weight_before ws) e
weight_past ws n (suc m) h =
    let e : n + suc m ≡ n + m + 1 = omega arith in
    let z = h (n + m) (omega arith) in
    ap (weight_before ws) e ∙ (let w = weight_more ws (n + m) in let p = weight_past ws n m h in omega arith)

-- where no weight stands at n and behind it, the first n come to the total
pub weight_below : (ws : List ℕ) (n : ℕ) → ((k : ℕ) → n ≤ k → get_or ws k 0 ≡ 0) → weight_before ws n ≡ sum ws
weight_below ws n h = sym (weight_past ws n (length ws) h) ∙ weight_all ws (n + length ws) (omega arith)
