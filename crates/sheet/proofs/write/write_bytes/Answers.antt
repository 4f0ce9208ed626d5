use Rattle.std.proofs.Common.{[], ◌∷◌, get_or, take}
use Rattle.std.proofs.lemmas.List.{take_more}
use Rattle.sheet.proofs.Tapes.{after_more}
use Rattle.sheet.proofs.write.write_bytes.Goals as goal

pub loop-byte-preserved : goal.loop-byte-preserved
loop-byte-preserved g c =
    let i = c.loop-byte.byte-index in
    rw (take_more c.args.text.now i 0 c.loop-byte-test.true)
    (after_more _ _ _ (take i c.args.text.now) (get_or c.args.text.now i 0 ∷ []) c.loop-byte.invariant c.put.ensures.value)
