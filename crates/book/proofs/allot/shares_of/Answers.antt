use Rattle.std.proofs.Common.{◌≡◌, List, replicate, ℤ, pos, Some, Option, ap, ◌∙◌, arith, w64}
use Rattle.std.proofs.lemmas.Int.{to_z-of_z}
use Rattle.std.specs.Option.{unwrap_or}
use Rattle.share.specs.Shares.{shares, shared}
use Rattle.share.proofs.Keeping.{shared_some}
use Rattle.book.proofs.allot.shares_of.Goals as goal

pub returns : goal.returns
returns c =
    let some : c.share_out.result ≡ Some (shares c.args.amount c.args.purchases 16) =
    c.share_out.ensures.value ∙ ap (λ z. shared z c.args.purchases) (to_z-of_z w64 c.args.amount c.ranges.amount) ∙ shared_some c.args.amount c.args.purchases (omega arith) in
    record { value = c.unwrap_or.ensures ∙ ap (λ (o : Option (List ℤ)). unwrap_or o (replicate 16 (pos 0))) some }
