use Rattle.std.proofs.Common.{◌≡◌, take}
use Rattle.sheet.specs.Tape.{after}
use Rattle.sheet.specs.Text.{text_of}
use Rattle.sheet.proofs.write.write_lines.Given as goal

abbrev pub invariant-loop-entry : goal.invariant-loop-entry
invariant-loop-entry g l = g.S.Sink.tape l.sink ≡ after (g.S.Sink.tape l.initial.sink) (text_of (take l.entry-index l.entries))
