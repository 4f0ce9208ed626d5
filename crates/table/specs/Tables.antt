-- Lists of lines with a row of places for each hour.
use Rattle.std.specs.Prelude.{ℕ, zero, suc, ◌+◌, List, slice_set}

-- the list with f 0, f 1 .. f (n - 1) written from a place on; a place past its end is not written
abbrev pub filled : {X : Type 0} → List X → ℕ → ℕ → (ℕ → X) → List X
filled xs at zero f = xs
filled xs at (suc n) f = slice_set (filled xs at n f) (at + n) (f n)
