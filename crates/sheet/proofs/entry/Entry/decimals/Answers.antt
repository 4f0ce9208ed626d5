use Rattle.std.proofs.Common.{◌∙◌, rules}
use Rattle.sheet.proofs.Decimals.{number_text}
use Rattle.sheet.proofs.entry.Entry.decimals.Goals as goal

pub returns : goal.returns
returns c = record { value = c.format.ensures.text ∙ number_text c.args.self.now.number (search rules); bounded = c.format.ensures.short }
