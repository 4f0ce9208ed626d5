use Rattle.std.proofs.Common.{rules}
use Rattle.sheet.proofs.gather.buyer_block.Goals as goal

pub returns : goal.returns
returns c =
    let due = rw c.register-register.ensures.value at c.column_sums-sums.ensures.due in
    let back = rw c.register-register.ensures.value at c.column_sums-sums.ensures.back in
    search rules
