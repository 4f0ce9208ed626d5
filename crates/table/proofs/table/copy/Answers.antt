use Rattle.std.proofs.Common.{rules, get_or-take}
use Rattle.table.proofs.Filling.{filled_part}
use Rattle.table.proofs.table.copy.Goals as goal

pub returns : goal.returns
returns g c =
    record { value = filled_part c.args.lines.now c.copy_from_slice.new.self c.args.from c.args.count c.min-from.result c.min-count.result _ g.L.Amounts.empty c.min-from.ensures c.min-count.ensures (search rules) (λ k l. let t = get_or-take c.min-count.result c.args.row.now k g.L.Amounts.empty l in cc) }
