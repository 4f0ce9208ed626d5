use Rattle.book.proofs.MonthSums.{plus_is}
use Rattle.book.proofs.reconcile.Reconciliation.plus.Goals as goal

pub returns : goal.returns
returns c =
    let x = c.args.self in
    let y = c.args.other in
    let p = plus_is x.payments y.payments c.requires.self_within.payments c.requires.other_within.payments in
    let f = plus_is x.fines y.fines c.requires.self_within.fines c.requires.other_within.fines in
    let h = plus_is x.charges y.charges c.requires.self_within.charges c.requires.other_within.charges in
    let r = plus_is x.refunds y.refunds c.requires.self_within.refunds c.requires.other_within.refunds in
    record { value = λ i. record { payments = p i; fines = f i; charges = h i; refunds = r i } }
