use Rattle.std.proofs.Common.{ℤ, ap, ◌∙◌, w64, SFits, rules}
use Rattle.std.proofs.lemmas.Int.{to_z-of_z}
use Rattle.share.specs.Shares.{shared}
use Rattle.report.proofs.hour.Purchases.shares_of.Goals as goal

-- what is passed as bits is the amount itself
pub returns : goal.returns
returns c =
    let fits : SFits w64 c.args.amount = search rules in
    record { value = c.share_out.ensures.value ∙ ap (λ (z : ℤ). shared z c.args.self.now.bought) (to_z-of_z w64 c.args.amount fits) }
