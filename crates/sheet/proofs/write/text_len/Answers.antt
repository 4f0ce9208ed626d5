use Rattle.std.proofs.Common.{rules}
use Rattle.std.proofs.lemmas.List.Concat.{length-flat_map}
use Rattle.sheet.specs.Text.{line_text}
use Rattle.sheet.proofs.write.text_len.Goals as goal

pub returns : goal.returns
returns c = rw (length-flat_map line_text c.args.entries.now) (search rules)
