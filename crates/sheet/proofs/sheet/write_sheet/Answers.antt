use Rattle.book.specs.Seen.{seen}
use Rattle.sheet.proofs.Columns.{balanced_sheet}
use Rattle.sheet.proofs.sheet.write_sheet.Goals as goal

pub returns-then-lacks_places-clause-balanced : goal.returns-then-lacks_places-clause-balanced
returns-then-lacks_places-clause-balanced c = balanced_sheet (seen c.args.book.now c.args.lines.now c.args.charges.now)

pub returns-clause-balanced : goal.returns-clause-balanced
returns-clause-balanced c = balanced_sheet (seen c.args.book.now c.args.lines.now c.args.charges.now)
