-- Numbers written one behind another, as a copy into a part of a table writes them.
use Rattle.std.proofs.Common.{◌≡◌, ℕ, zero, suc, ◌+◌, ◌≤◌, List, [], ◌∷◌, length, set, sym, refl, ap, ◌∙◌, arith, length-set}
use borrow.Rule.Slice.PartMut.{put_mid}
use Rattle.report.specs.Lines.{written}

under : (place t : ℕ) (values table : List ℕ) → written (suc place) values (t ∷ table) ≡ t ∷ written place values table
under place t [] table = refl
under place t (v ∷ vs) table = under (suc place) t vs (set table place v)

put_is : (place : ℕ) (values table : List ℕ) → place + length values ≤ length table → put_mid place (length values) table values ≡ written place values table
put_is zero [] table h = refl
put_is zero (v ∷ vs) [] h = absurd (omega arith)
put_is zero (v ∷ vs) (t ∷ table) h = ap (λ l. v ∷ l) (put_is zero vs table (omega arith)) ∙ sym (under zero v vs table)
put_is (suc place) values [] h = absurd (omega arith)
put_is (suc place) values (t ∷ table) h = ap (λ l. t ∷ l) (put_is place values table (omega arith)) ∙ sym (under place t values table)

-- numbers copied into a part of a table
pub copied : (place k : ℕ) (values new table : List ℕ) → new ≡ values → k ≡ length values → place + length values ≤ length table → put_mid place k table new ≡ written place values table
copied place k values new table is many room = ap (put_mid place k table) is ∙ ap (λ n. put_mid place n table values) many ∙ put_is place values table room

pub length_written : (place : ℕ) (values table : List ℕ) → length (written place values table) ≡ length table
length_written place [] table = refl
length_written place (v ∷ vs) table = length_written (suc place) vs (set table place v) ∙ length-set table place v
