-- The usual load of a customer's hour: the baseline, the metered load and the cut, or the cause.
use Rattle.std.specs.Prelude.{ℕ, ℤ, pos, ◌-ℤ◌, Some, None, Ok, Err, Option, Result}
use Rattle.refusal.specs.declared.Cause.{Cause}
use Rattle.refusal.specs.declared.Cause.TheVariants.{MissingLoad}
use Rattle.baseline.specs.Meaning.{SourceMeaning}
use Rattle.report.specs.declared.usual.Usual.{Usual}

-- the baseline's cause comes first; a missing metered load is a cause too
abbrev pub usual_from : Result ℤ Cause → Option ℕ → Result Usual Cause
usual_from (Err cause) load = Err cause
usual_from (Ok b) None = Err MissingLoad
usual_from (Ok b) (Some load) = Ok (record { baseline = b; metered = load; cut = b -ℤ pos load })

abbrev pub usual_of : SourceMeaning → ℕ → ℕ → ℕ → Result Usual Cause
usual_of source c d h = usual_from (source.baseline c d h) (source.metered c d h)
