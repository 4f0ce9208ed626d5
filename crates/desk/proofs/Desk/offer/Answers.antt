use Rattle.book.specs.Seen.{named_by}
use Rattle.book.proofs.Finishing.{finishes_other}
use Rattle.desk.specs.Keeping.{on_desk}
use Rattle.desk.proofs.Kept.{kept}
use Rattle.desk.proofs.Desk.offer.Goals as goal

pub returns-clause-keeps : goal.returns-clause-keeps
returns-clause-keeps g c = λ s e ne. kept s c.finish.ensures.book (finishes_other (on_desk c.args.self.now) s e (named_by c.args.slip) ne)
