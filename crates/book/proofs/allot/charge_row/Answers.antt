use Rattle.std.proofs.Common.{◌≡◌, ℕ, ◌<◌, ◌≤◌, length, get_or, replicate, pos, refl, ◌∙◌, ap, zero-le, arith, rules, w64}
use Rattle.std.proofs.lemmas.Int.{to_z-of_z}
use Rattle.share.specs.Shares.{shares}
use Rattle.table.specs.declared.lines.BuyerLine.{BuyerLine}
use Rattle.table.specs.Lines.{no_charge}
use Rattle.table.proofs.Filling.{filled_whole}
use Rattle.book.proofs.Charged.{row_of_shares}
use Rattle.book.proofs.Entered.{each_made}
use Rattle.book.proofs.allot.charge_row.Goals as goal

pub returns : goal.returns
returns c =
    let u = c.from_fn.ensures.items in
    let few : length c.args.purchases ≤ 16 = omega arith in
    let f : ℕ → BuyerLine = λ k. record { charge = get_or c.shares_of-charges.result k (pos 0); refund = get_or c.shares_of-refunds.result k (pos 0) } in
    let each : (k : ℕ) → k < 8 → get_or c.from_fn.result k no_charge ≡ f k = λ k l. each_made _ _ c.from_fn.result f no_charge (λ i y q r. search rules) 8 0 u.each k zero-le (omega arith) in
    record {
      value = filled_whole (replicate 8 no_charge) c.from_fn.result 8 f no_charge refl u.long each
          ∙ row_of_shares c.args.paid c.args.fined c.args.purchases c.shares_of-charges.result c.shares_of-refunds.result few
          (c.shares_of-charges.ensures.value ∙ ap (λ z. shares z c.args.purchases 16) (to_z-of_z w64 c.args.paid c.ranges.paid))
          (c.shares_of-refunds.ensures.value ∙ ap (λ z. shares z c.args.purchases 16) (to_z-of_z w64 c.args.fined c.ranges.fined));
    }
