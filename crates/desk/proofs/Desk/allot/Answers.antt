use Rattle.desk.specs.Keeping.{on_desk}
use Rattle.book.proofs.Finishing.{finishes_allotted}
use Rattle.desk.proofs.Kept.{kept}
use Rattle.desk.proofs.Desk.allot.Goals as goal

pub returns-clause-keeps : goal.returns-clause-keeps
returns-clause-keeps g c = λ slip e. kept slip c.allot.ensures.book (finishes_allotted (on_desk c.args.self.now) slip e c.args.at.day c.args.at.hour)
