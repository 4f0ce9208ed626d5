use Rattle.book.specs.Seen.{named_by}
use Rattle.month.proofs.correct.Goals as goal

-- the slip stays good while the hour is told and settled anew
pub finish-requires : goal.finish-requires
finish-requires g c =
    let slip = named_by c.in_ok-slip.slip in
    c.settle-settled.ensures.keeps slip (c.tell-told.ensures.keeps slip c.in_ok-slip.ensures.finishes)
