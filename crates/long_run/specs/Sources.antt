-- What a source of any sort means.
use Rattle.load.specs.Records.{interval_record, register_record, without}
use Rattle.baseline.specs.Meaning.{SourceMeaning}
use Rattle.baseline.specs.Sources.{ranked_source, filed_source, adjusted_source}
use Rattle.long_run.specs.declared.sources.Source.{Source}
use Rattle.long_run.specs.declared.sources.Source.TheVariants.{Intervals, LeftOutIntervals, Registers, AdjustedRegisters, Filed, AdjustedIntervals, AdjustedFiled}

-- the meaning of the source that is held
abbrev pub held_meaning : Source → SourceMeaning
held_meaning (Intervals s) = ranked_source (interval_record s.loads.loads.now s.loads.classes.now) s.method
held_meaning (LeftOutIntervals s) = ranked_source (without s.loads.marks.now (interval_record s.loads.below.now.loads.now s.loads.below.now.classes.now)) s.method
held_meaning (Registers s) = ranked_source (register_record s.loads.readings.now s.loads.classes.now) s.method
held_meaning (AdjustedRegisters s) = adjusted_source s.starts.now (ranked_source (without s.below.loads.marks.now (register_record s.below.loads.below.now.readings.now s.below.loads.below.now.classes.now)) s.below.method)
held_meaning (Filed s) = filed_source s.baselines.now s.loads.now
held_meaning (AdjustedIntervals s) = adjusted_source s.starts.now (ranked_source (interval_record s.below.now.loads.loads.now s.below.now.loads.classes.now) s.below.now.method)
held_meaning (AdjustedFiled s) = adjusted_source s.starts.now (filed_source s.below.baselines.now s.below.loads.now)
