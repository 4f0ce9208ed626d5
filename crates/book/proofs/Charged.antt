-- The row of charges that an allotting writes.
use Rattle.std.proofs.Common.{◌≡◌, ℕ, ◌^◌, ◌≤◌, min, List, length, get_or, replicate, ℤ, pos, nat_abs, sym, ap, ◌∙◌, ap₂, zero-add, arith, w64, to_z, of_z}
use mir.Syntax.{w128}
use Rattle.std.proofs.lemmas.Int.{ints}
use Rattle.share.specs.Shares.{shares}
use Rattle.share.proofs.Keeping.{share_at}
use Rattle.table.specs.declared.lines.BuyerLine.{BuyerLine}
use Rattle.table.specs.Lines.{no_charge}
use Rattle.table.specs.Tables.{filled}
use Rattle.table.proofs.Filling.{filled_same, read_filled, length_filled}
use Rattle.book.specs.Calls.{charges_of}

-- the row of the shares
pub row_of_shares : (paid fined : ℤ) (ws : List ℕ) (cs rs : List ℤ) → length ws ≤ 16 → cs ≡ shares paid ws 16 → rs ≡ shares fined ws 16
    → filled (replicate 8 no_charge) 0 8 (λ j. record { charge = get_or cs j (pos 0); refund = get_or rs j (pos 0) }) ≡ filled (replicate 8 no_charge) 0 8 (charges_of paid fined ws)
row_of_shares paid fined ws cs rs few p q =
    filled_same (replicate 8 no_charge) 0 8 _ (charges_of paid fined ws)
    (λ k l. ap₂ (λ (x y : ℤ). record { charge = x; refund = y }) (ap (λ xs. get_or xs k (pos 0)) p ∙ share_at paid ws 16 k few) (ap (λ xs. get_or xs k (pos 0)) q ∙ share_at fined ws 16 k few))

-- a list filled from that row
pub filled_from_row : (xs row : List BuyerLine) (at n : ℕ) (f : ℕ → BuyerLine) → n ≤ 8 → row ≡ filled (replicate 8 no_charge) 0 8 f → filled xs at (min n (length row)) (λ k. get_or row k no_charge) ≡ filled xs at n f
filled_from_row xs row at n f few e =
    let long : length row ≡ 8 = ap length e ∙ length_filled (replicate 8 no_charge) 0 8 f in
    let all : min n (length row) ≡ n = omega arith in
    ap (λ m. filled xs at m (λ k. get_or row k no_charge)) all
    ∙ filled_same xs at n (λ k. get_or row k no_charge) f
    (λ k l. ap (λ r. get_or r k no_charge) e ∙ ap (λ j. get_or (filled (replicate 8 no_charge) 0 8 f) j no_charge) (sym (zero-add k)) ∙ read_filled (replicate 8 no_charge) 0 8 k f no_charge (omega arith) (omega arith))

-- a row's sum as the code has it
pub narrowed : (v : ℤ) → nat_abs v ≤ 2 ^ 36 → to_z w64 (of_z w64 (to_z w128 (of_z w128 v))) ≡ v
narrowed v h = omega (arith, ints)
