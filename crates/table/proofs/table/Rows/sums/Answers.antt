use Rattle.std.proofs.Common.{◌≡◌, ◌+◌, ◌*◌, ◌^◌, get_or, ap, ◌∙◌, arith}
use Rattle.won.proofs.Sums.{total_turn, within_turn, total_end}
use Rattle.table.proofs.table.Rows.sums.Goals as goal

pub loop-column-preserved : goal.loop-column-preserved
loop-column-preserved g c =
    let n = c.loop-column.column in
    let s = c.loop-column.sums in
    let t = c.plus-sums.result in
    let i = c.loop-column.invariant in
    let e = c.line.ensures.value in
    let o = c.of.ensures in
    let a = c.plus-sums.ensures in (
      total_turn n (λ k. g.L.Amounts.due (get_or c.args.self.now.lines.now (c.args.hour * c.args.self.now.width + k) g.L.Amounts.empty)) s.due c.of.result.due t.due i.0 (o.due ∙ ap g.L.Amounts.due e) a.due,
      total_turn n (λ k. g.L.Amounts.back (get_or c.args.self.now.lines.now (c.args.hour * c.args.self.now.width + k) g.L.Amounts.empty)) s.back c.of.result.back t.back i.1 (o.back ∙ ap g.L.Amounts.back e) a.back,
      within_turn n (2 ^ 63) s.due c.of.result.due t.due i.2 o.narrow.0 a.due,
      within_turn n (2 ^ 63) s.back c.of.result.back t.back i.3 o.narrow.1 a.back,
      within_turn n g.L.Amounts.most s.due c.of.result.due t.due i.4 o.bounded.0 a.due,
      within_turn n g.L.Amounts.most s.back c.of.result.back t.back i.5 o.bounded.1 a.back,
    )

pub returns : goal.returns
returns g c =
    let n : c.loop-column.column ≡ c.args.self.now.width = omega arith in
    let i = c.loop-column.invariant in
    let d = total_end _ _ g.L.Amounts.most (λ k. g.L.Amounts.due (get_or c.args.self.now.lines.now (c.args.hour * c.args.self.now.width + k) g.L.Amounts.empty)) c.loop-column.sums.due n i.0 i.4 in
    let b = total_end _ _ g.L.Amounts.most (λ k. g.L.Amounts.back (get_or c.args.self.now.lines.now (c.args.hour * c.args.self.now.width + k) g.L.Amounts.empty)) c.loop-column.sums.back n i.1 i.5 in
    record { due = d.0; back = b.0; bounded = (d.1, b.1) }
