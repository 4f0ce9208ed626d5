-- The bounds that a line's figures stay within.
use Rattle.std.specs.Prelude.{ℕ, ◌≤◌, ℤ, pos, neg_ℤ, ◌≤ℤ◌}
use Rattle.settlement.specs.declared.terms.Terms.{Terms}

-- no further from nought than a bound
abbrev pub Within : ℕ → ℤ → Type 0
Within n z = (neg_ℤ (pos n) ≤ℤ z) × (z ≤ℤ pos n)

-- plan, order and prices within their limits
pub record Limited (t : Terms) : Type 0 where
  pub plan : t.plan ≤ 640000000
  pub order : t.order ≤ 500000000
  pub smp : t.smp ≤ 200000
  pub mgp : t.mgp ≤ 200000
