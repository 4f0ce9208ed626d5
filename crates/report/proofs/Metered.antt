-- A request with nothing in it, and one with a meter's numbers.
use Rattle.std.proofs.Common.{◌≡◌, ℕ, ◌-◌, false, List, length, take, drop, replicate, Some, None, Ok, Option, Result, not, unwrap_or, sym, refl, ap, ◌∙◌}
use Rattle.std.proofs.lemmas.List.{take_rest}
use Rattle.std.proofs.lemmas.Bool.{cond-false}
use Rattle.report.specs.declared.fault.Fault.{Fault}
use Rattle.report.specs.contracts.meter.Meter.{the_type}
use Rattle.report.specs.declared.meter.Meter.{Meter}
use Rattle.report.specs.declared.meter.Meter.TheVariants.{Loads, Readings}
use Rattle.report.specs.Asked.{Asked, unread, nothing_asked, said, mixed, metered_by}
use Rattle.report.specs.Lines.{written, place_in}
use denote.Enum.Bare.{sameb}

pub unread_is : replicate 36880 4294967295 ≡ unread
unfolding unread
unread_is = refl

pub new_is : (items : List ℕ) → items ≡ replicate 36880 4294967295 → record nothing_asked { numbers = items } ≡ nothing_asked
new_is items e = ap (λ (l : List ℕ). record nothing_asked { numbers = l }) (e ∙ unread_is)

abbrev pub read_by : Meter → Asked → List ℕ → Asked
read_by m a items = record a { meter = Some m; numbers = items }

pub meter_goes : (m : Meter) (ns : List ℕ) (a : Asked) (place : ℕ) (items : List ℕ) → mixed a.meter m ≡ false → place_in m ns ≡ Ok place → items ≡ written place (take (length ns - 3) (drop 3 ns)) a.numbers → metered_by m ns a ≡ Ok (read_by m a items)
meter_goes m ns a place items one at is =
    let all : items ≡ written place (drop 3 ns) a.numbers = is ∙ ap (λ (l : List ℕ). written place l a.numbers) (take_rest ns 3) in
    let whole : List ℕ → Result Asked Fault = λ l. Ok (read_by m a l) in
    cond-false _ _ _ one ∙ ap (said (λ p. record a { meter = Some m; numbers = written p (drop 3 ns) a.numbers })) at ∙ ap whole (sym all)

-- a meter differs from that of the lines before, if they have one
pub mixed_is : (o : Option Meter) (m : Meter) → mixed o m ≡ not (sameb the_type (unwrap_or o m) m)
mixed_is None Loads = refl
mixed_is None Readings = refl
mixed_is (Some Loads) Loads = refl
mixed_is (Some Loads) Readings = refl
mixed_is (Some Readings) Loads = refl
mixed_is (Some Readings) Readings = refl
