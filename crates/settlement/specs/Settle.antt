-- What settling a resource's hour answers: the line, or the first refusal.
use Rattle.std.specs.Prelude.{ℕ, Bool, true, cond, not, ◌&&◌, ◌||◌, List, [], ◌∷◌, ℤ, pos, Some, None, Ok, Err, Option, Result, ◌==◌, nat_lt}
use Rattle.refusal.specs.declared.NoFigure.{NoFigure}
use Rattle.refusal.specs.declared.Refusal.{Refusal}
use Rattle.refusal.specs.declared.Refusal.TheVariants.{NeitherPlanNorOrder, AboveLimit, MarkWithoutOrder, OutsideOrderHours, Scheduled, Mandatory}
use Rattle.refusal.specs.Tests.{refused_if, first_of}
use Rattle.baseline.specs.Meaning.{SourceMeaning}
use Rattle.settlement.specs.declared.terms.Line.{Line}
use Rattle.settlement.specs.declared.terms.Portfolio.{Portfolio}
use Rattle.settlement.specs.declared.terms.Slot.{Slot}
use Rattle.settlement.specs.declared.terms.Terms.{Terms}
use Rattle.settlement.specs.Figures.{line_of}
use Rattle.settlement.specs.Hours.{takes_order}
use Rattle.settlement.specs.Reduction.{reduction, takes_part}

-- a plan or an order of 0 is none
abbrev pub none : ℕ → Bool
none n = n == 0

-- a plan above 640,000,000 Wh, an order above 500,000,000 Wh, or a price above 2,000 won per kWh
abbrev pub above_limit : Terms → Bool
above_limit t = nat_lt 640000000 t.plan || (nat_lt 500000000 t.order || (nat_lt 200000 t.smp || nat_lt 200000 t.mgp))

-- what the terms are refused for by themselves
abbrev pub terms_refusal : Portfolio → Slot → Terms → Option Refusal
terms_refusal p at t = first_of (
    refused_if (none t.plan && none t.order) NeitherPlanNorOrder
    ∷ refused_if (above_limit t) AboveLimit
    ∷ refused_if ((t.emergency || t.test) && none t.order) MarkWithoutOrder
    ∷ refused_if (not (none t.order) && not (takes_order p.kind at.class at.month at.hour)) OutsideOrderHours
    ∷ [])

-- SR, over the customers that take part; without a plan nothing is asked
abbrev pub scheduled_reduction : SourceMeaning → List ℕ → Portfolio → Slot → Terms → Result ℤ NoFigure
scheduled_reduction source marks p at t =
    cond (none t.plan) (Ok (pos 0)) (reduction source (takes_part marks) at.day at.hour p.customers)

-- DR, over all customers; without an order nothing is asked
abbrev pub mandatory_reduction : SourceMeaning → Portfolio → Slot → Terms → Result ℤ NoFigure
mandatory_reduction source p at t =
    cond (none t.order) (Ok (pos 0)) (reduction source (λ _. true) at.day at.hour p.customers)

-- the first refusal: of the terms, then of the scheduled source, then of the mandatory one; else the line
abbrev pub line_or_refusal : Terms → Option Refusal → Result ℤ NoFigure → Result ℤ NoFigure → Result Line Refusal
line_or_refusal t (Some refusal) sr dr = Err refusal
line_or_refusal t None (Err lacking) dr = Err (Scheduled lacking)
line_or_refusal t None (Ok sr) (Err lacking) = Err (Mandatory lacking)
line_or_refusal t None (Ok sr) (Ok dr) = Ok (line_of t sr dr)

-- what settling answers, over the meanings of the scheduled and the mandatory source
abbrev pub settled : SourceMeaning → SourceMeaning → List ℕ → Portfolio → Slot → Terms → Result Line Refusal
settled scheduled mandatory marks p at t =
    line_or_refusal t (terms_refusal p at t) (scheduled_reduction scheduled marks p at t) (mandatory_reduction mandatory p at t)
