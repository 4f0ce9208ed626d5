use Rattle.std.proofs.Common.{Ok, ap, ◌∙◌, sym}
use Rattle.baseline.specs.Methods.{method_or_refusal}
use Rattle.baseline.proofs.Named.{same_row}
use Rattle.baseline.proofs.methods.MethodFromStr.from_str.Goals as goal

pub returns-in-max45 : goal.returns-in-max45
returns-in-max45 c = ap Ok (same_row _ _ _ _ _ _ _ _ _) ∙ sym (ap method_or_refusal c.in-max45.is)

pub returns-in-mid610 : goal.returns-in-mid610
returns-in-mid610 c = ap Ok (same_row _ _ _ _ _ _ _ _ _) ∙ sym (ap method_or_refusal c.in-mid610.is)

pub returns-in-mid46 : goal.returns-in-mid46
returns-in-mid46 c = ap Ok (same_row _ _ _ _ _ _ _ _ _) ∙ sym (ap method_or_refusal c.in-mid46.is)

pub returns-in-mid810 : goal.returns-in-mid810
returns-in-mid810 c = ap Ok (same_row _ _ _ _ _ _ _ _ _) ∙ sym (ap method_or_refusal c.in-mid810.is)

pub returns-in-hmax45 : goal.returns-in-hmax45
returns-in-hmax45 c = ap Ok (c.on_holidays.ensures.value ∙ same_row _ _ _ _ _ _ _ _ _) ∙ sym (ap method_or_refusal c.in-hmax45.is)

pub returns-in-hmid610 : goal.returns-in-hmid610
returns-in-hmid610 c = ap Ok (c.on_holidays-in-hmid610.ensures.value ∙ same_row _ _ _ _ _ _ _ _ _) ∙ sym (ap method_or_refusal c.in-hmid610.is)

pub returns-in-hmid46 : goal.returns-in-hmid46
returns-in-hmid46 c = ap Ok (c.on_holidays-in-hmid46.ensures.value ∙ same_row _ _ _ _ _ _ _ _ _) ∙ sym (ap method_or_refusal c.in-hmid46.is)
