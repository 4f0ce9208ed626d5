-- The reduction of load over the customers of a resource.
use Rattle.std.specs.Prelude.{ℕ, zero, suc, Bool, cond, List, ℤ, pos, ◌+ℤ◌, ◌-ℤ◌, Some, None, Ok, Err, Option, Result, ◌==◌, slice_index}
use Rattle.refusal.specs.declared.Cause.{Cause}
use Rattle.refusal.specs.declared.Cause.TheVariants.{MissingLoad}
use Rattle.refusal.specs.declared.NoFigure.{NoFigure}
use Rattle.baseline.specs.Meaning.{SourceMeaning}

-- a baseline less a metered load; the baseline is asked first, and a missing load is a cause too
abbrev pub less : Result ℤ Cause → Option ℕ → Result ℤ Cause
less (Err cause) load = Err cause
less (Ok b) None = Err MissingLoad
less (Ok b) (Some load) = Ok (b -ℤ pos load)

-- by how much one customer's load lies below the baseline, below nought too
abbrev pub cut : SourceMeaning → ℕ → ℕ → ℕ → Result ℤ Cause
cut source c day hour = less (source.baseline c day hour) (source.metered c day hour)

-- a sum so far, and the cut of one customer more
abbrev pub more : Result ℤ NoFigure → ℕ → Result ℤ Cause → Result ℤ NoFigure
more (Err lacking) c x = Err lacking
more (Ok sum) c (Err cause) = Err (record { customer = c; cause = cause })
more (Ok sum) c (Ok x) = Ok (sum +ℤ x)

-- the cuts of the asked customers below a count, added up, or the first of them with a cause
abbrev pub reduction : SourceMeaning → (ℕ → Bool) → ℕ → ℕ → ℕ → Result ℤ NoFigure
reduction source asked day hour zero = Ok (pos 0)
reduction source asked day hour (suc c) =
    cond (asked c) (more (reduction source asked day hour c) c (cut source c day hour)) (reduction source asked day hour c)

-- a customer takes part if the mark is 1; another byte or none means not
abbrev pub takes_part : List ℕ → ℕ → Bool
takes_part marks c = slice_index marks c == 1
