use Rattle.std.proofs.Common.{length, get_or, replicate, refl, arith, rules}
use Rattle.table.proofs.Filling.{filled_over}
use Rattle.book.proofs.register.entered_classes.Goals as goal

pub returns : goal.returns
returns c = record { value = filled_over (replicate 31 0) c.copy_from_slice.new.self 0 (length c.args.classes.now) (length c.args.classes.now) (λ j. get_or c.args.classes.now j 0) 0 refl (omega arith) (search rules) (λ j l. search rules) }
