use Rattle.report.proofs.Metered.{new_is}
use Rattle.report.proofs.request.Request.new.Goals as goal

pub returns : goal.returns
returns c = record { value = new_is _ (c.in_ok-vec.ensures.items_if_clones_equal (λ y e. e)) }
