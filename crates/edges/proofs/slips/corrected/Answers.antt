use Rattle.std.proofs.Common.{refl}
use Rattle.book.specs.Seen.{named_by}
use Rattle.edges.proofs.slips.corrected.Goals as goal

pub finish-requires : goal.finish-requires
finish-requires g c = c.requires.keeps _ _ c.work-answer.result (record { shown = _; shows = refl; left = _; met = c.work-answer.ensures; leaves = refl }) (named_by c.in_ok-slip.slip) c.in_ok-slip.ensures.finishes
