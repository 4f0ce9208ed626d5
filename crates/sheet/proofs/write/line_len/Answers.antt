use Rattle.std.proofs.Common.{ap, arith, length, length-append}
use Rattle.sheet.proofs.write.line_len.Goals as goal

pub returns-clause-value : goal.returns-clause-value
returns-clause-value c = simp length-append (omega (arith, ap length c.text.ensures.value, ap length c.decimals.ensures.value))
