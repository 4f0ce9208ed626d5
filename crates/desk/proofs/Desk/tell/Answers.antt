use Rattle.desk.specs.Keeping.{on_desk}
use Rattle.book.proofs.Finishing.{finishes_told}
use Rattle.desk.proofs.Kept.{kept}
use Rattle.desk.proofs.Desk.tell.Goals as goal

pub returns-clause-keeps : goal.returns-clause-keeps
returns-clause-keeps g c = λ slip e. kept slip c.tell.ensures.book (finishes_told (on_desk c.args.self.now) slip e c.args.at.day c.args.at.hour c.args.total c.args.others.now)
