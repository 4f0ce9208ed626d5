-- What a steady source answers.
use Rattle.std.specs.Prelude.{cond, ◌&&◌, Some, None, Ok, Err, int_le, nat_le, nat_lt}
use Rattle.refusal.specs.declared.Cause.TheVariants.{TooFewDays, OutOfRange}
use Rattle.load.specs.Meaning.{in_range, is_hour}
use Rattle.baseline.specs.Meaning.{SourceMeaning, lowest, highest}
use Rattle.settlement_cases.specs.declared.steady.Steady.{Steady}

-- the one load and the one baseline, for the customers below their counts
abbrev pub steady_meaning : Steady → SourceMeaning
steady_meaning s = record {
  metered = λ c d h. cond (nat_lt c s.with_load && nat_le s.load 20000000) (Some s.load) None;
  profile = λ c d h g. cond (in_range c d h && is_hour g) (Err TooFewDays) (Err OutOfRange);
  baseline = λ c d h.
      cond (in_range c d h)
      (cond (nat_lt c s.with_baseline && (int_le lowest s.baseline && int_le s.baseline highest)) (Ok s.baseline) (Err TooFewDays))
      (Err OutOfRange);
}
