use Rattle.std.proofs.Common.{pos, arith, length-drop}
use Rattle.std.proofs.lemmas.List.Folds.{length-flat_map-take}
use Rattle.sheet.specs.declared.entry.Key.TheVariants.{Book}
use Rattle.sheet.specs.Text.{line_text}
use Rattle.sheet.proofs.write.write_lines.Goals as goal

pub write_line-requires : goal.write_line-requires
write_line-requires g c =
    rw c.loop-entry.invariant
    (simp length-drop (omega (arith, c.requires, length-flat_map-take line_text c.args.entries.now c.loop-entry.entry-index (record { key = Book; number = pos 0 }) c.loop-entry-test.true)))
