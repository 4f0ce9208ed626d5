-- How an amount of won is shared among places by weight.
use Rattle.std.specs.Prelude.{ℕ, ◌+◌, cond, List, map, length, take, ℤ, pos, ◌-ℤ◌, ◌*ℤ◌, Some, None, sum, Option, nat_lt}
use Rattle.std.specs.List.{range_with_len}
use Rattle.std.specs.Int.{int_div_euclid}

-- what the first k weights come to
abbrev pub weight_before : List ℕ → ℕ → ℕ
weight_before ws k = sum (take k ws)

-- the part of the amount that falls on the first k places, brought down to a whole won, below nought too
abbrev pub part : ℤ → List ℕ → ℕ → ℤ
part amount ws k = int_div_euclid (amount *ℤ pos (weight_before ws k)) (pos (sum ws))

-- the share of place k, in whole won
abbrev pub share : ℤ → List ℕ → ℕ → ℤ
share amount ws k = part amount ws (k + 1) -ℤ part amount ws k

-- the shares of n places
abbrev pub shares : ℤ → List ℕ → ℕ → List ℤ
shares amount ws n = map (share amount ws) (range_with_len 0 n)

-- sixteen shares, unless there are more weights
abbrev pub shared : ℤ → List ℕ → Option (List ℤ)
shared amount ws = cond (nat_lt 16 (length ws)) None (Some (shares amount ws 16))
