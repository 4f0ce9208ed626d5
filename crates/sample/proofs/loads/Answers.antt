use Rattle.std.proofs.Common.{◌≡◌, inl, inr, get_or, arith, rules}
use Rattle.std.proofs.lemmas.Bool.{cases_eq, ne_eqb}
use Rattle.std.proofs.lemmas.List.{get_or-set_same, get_or-set_other}
use Rattle.sample.specs.Loads.{reference_at}
use Rattle.sample.proofs.loads.Goals as goal

pub returns : goal.returns
returns c = record {
  value = λ place l.
      let list = c.from_fn-loads in
      let metered = c.args.metered in
      let h = (list.ensures.items.at place 0 l).2 in
      let here : get_or list.result place 0 ≡ reference_at place = search rules in
      elim (cases_eq place 130) [
        | inl e ↦ rw (e, get_or-set_same list.result 130 metered 0 (omega (arith, list.ensures.items.long)))
        | inr n ↦ rw (ne_eqb place 130 n, get_or-set_other list.result 130 place metered 0 n) here
      ];
}
