use Rattle.std.proofs.Common.{refl}
use Rattle.report.proofs.Parts.{word_cut}
use Rattle.report.proofs.fields.word_of.Goals as goal

pub returns : goal.returns
returns c = record { value = rw c.unwrap_or.ensures (word_cut c.args.line.now c.split_once.result _ refl c.split_once.ensures.cases) }
