use Rattle.std.proofs.Common.{length, get_or, set, replicate, ap, arith, rules}
use Rattle.table.proofs.Filling.{filled_over}
use Rattle.book.proofs.tell.purchases_of.Goals as goal

pub returns : goal.returns
returns c =
    record { value = ap (λ p. set p 0 c.args.retailer) (filled_over (replicate 8 0) c.copy_from_slice.new.self 1 (length c.args.others.now) _ (λ j. get_or c.args.others.now j 0) 0 (omega arith) (omega arith) (search rules) (λ j l. search rules)) }
