use Rattle.std.proofs.Common.{◌≡◌, ℕ, ◌+◌, ◌-◌, ◌≤◌, List, length, take, drop, vec_items, vec_len, not, sym, ap, ◌∙◌, arith, length-drop}
use Rattle.std.specs.Vec.{with_items}
use Rattle.std.proofs.lemmas.List.{take_rest, with_items_is}
use Rattle.report.specs.contracts.meter.Meter.{the_type}
use Rattle.report.specs.declared.meter.Meter.{Meter}
use denote.Enum.Bare.{sameb}
use Rattle.report.specs.Lines.{written}
use Rattle.report.proofs.Metered.{meter_goes, mixed_is}
use Rattle.report.proofs.Writing.{copied, length_written}
use borrow.Rule.Slice.PartMut.{put_mid}
use Rattle.report.proofs.request.Request.read_meter.Goals as goal

pub returns : goal.returns
returns c =
    let v = c.self.inside.numbers in
    let ns : List ℕ = c.args.numbers.now in
    let place : ℕ = c.in_ok-place.place in
    let values : List ℕ = take (length ns - 3) (drop 3 ns) in
    let was : List ℕ = c.deref_mut.result.now in
    let room : place + length values ≤ length was = let held = c.self.invariant.0 in let long = ap length (take_rest ns 3) in omega (arith, length-drop 3 ns, c.in_ok-place.ensures.bounded) in
    let is : put_mid place (place + length values - place) was c.copy_from_slice.new.self ≡ written place values (vec_items v) = copied place _ values c.copy_from_slice.new.self was c.copy_from_slice.ensures.after (omega arith) room ∙ ap (written place values) c.deref_mut.ensures.value in
    let long : length (put_mid place (place + length values - place) was c.copy_from_slice.new.self) ≡ vec_len v = ap length is ∙ length_written place values (vec_items v) ∙ sym (ap length c.deref_mut.ensures.value) ∙ c.deref_mut.ensures.len in
    let same = mixed_is c.self.inside.meter c.args.meter ∙ ap (λ (m : Meter). not (sameb the_type m c.args.meter)) (sym c.unwrap_or.ensures) ∙ sym c.ne.ensures ∙ c.if-ne.false in
    record { value = rw (← c.self.view_is) (meter_goes c.args.meter ns _ place (vec_items (with_items v _)) same (sym c.in_ok-place.ensures.value) (with_items_is v _ long ∙ is)) }
