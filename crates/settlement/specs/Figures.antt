-- The figures of a line: loads in Wh, prices in hundredths of a won per kWh, money in won, each fraction dropped.
use Rattle.std.specs.Prelude.{ℕ, ◌-◌, ◌*◌, ◌/◌, min, cond, ℤ, pos, negsuc, ◌-ℤ◌}
use Rattle.settlement.specs.declared.terms.Line.{Line}
use Rattle.settlement.specs.declared.terms.Terms.{Terms}

-- a signed load, at least 0
abbrev pub at_least_nought : ℤ → ℕ
at_least_nought (pos n) = n
at_least_nought (negsuc n) = 0

-- what a load is worth at a price
abbrev pub worth : ℕ → ℕ → ℕ
worth load price = load * price / 100000

-- DLR: the ordered reduction that counts, without the emergency mark at most six fifths of the order
abbrev pub dlr_of : Terms → ℤ → ℕ
dlr_of t dr = cond t.emergency (at_least_nought dr) (min (at_least_nought dr) (t.order * 6 / 5))

-- SLR: the scheduled reduction that counts, what DLR leaves of SR, at most the plan
abbrev pub slr_of : Terms → ℤ → ℕ → ℕ
slr_of t sr dlr = min (at_least_nought (sr -ℤ pos dlr)) t.plan

-- an order is paid at SMP with the test mark, else at MGP
abbrev pub order_price : Terms → ℕ
order_price t = cond t.test t.smp t.mgp

-- what is paid for the scheduled and for the ordered reduction
abbrev pub plan_pay_of : Terms → ℕ → ℤ
plan_pay_of t slr = pos (worth slr t.smp)

abbrev pub order_pay_of : Terms → ℕ → ℤ
order_pay_of t dlr = pos (worth dlr (order_price t))

-- the fine for what SR lacks of the plan; DLR is not taken off
abbrev pub fined_of : Terms → ℤ → ℕ
fined_of t sr = worth (t.plan - min (at_least_nought sr) t.plan) t.smp

-- the line of the terms and the two reductions
abbrev pub line_of : Terms → ℤ → ℤ → Line
line_of t sr dr = record {
  plan = t.plan;
  order = t.order;
  sr = sr;
  dr = dr;
  dlr = dlr_of t dr;
  slr = slr_of t sr (dlr_of t dr);
  plan_pay = plan_pay_of t (slr_of t sr (dlr_of t dr));
  order_pay = order_pay_of t (dlr_of t dr);
  fined = fined_of t sr;
}
