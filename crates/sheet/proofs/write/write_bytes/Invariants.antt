use Rattle.std.proofs.Common.{◌≡◌, take}
use Rattle.sheet.specs.Tape.{after}
use Rattle.sheet.proofs.write.write_bytes.Given as goal

abbrev pub invariant-loop-byte : goal.invariant-loop-byte
invariant-loop-byte g l = g.S.Sink.tape l.sink ≡ after (g.S.Sink.tape l.initial.sink) (take l.byte-index l.text)
