use Rattle.std.proofs.Common.{◌*◌, ap, ◌∙◌}
use Rattle.table.specs.Lines.{no_line, no_charge}
use Rattle.table.specs.Tables.{filled}
use Rattle.book.specs.declared.register.Register.{Register}
use Rattle.book.proofs.book.Book.begin.Goals as goal

pub returns : goal.returns
returns c =
    let register = c.register-register.ensures.value in
    let lines = c.clear.ensures.value ∙ ap (λ (s : Register). filled c.args.lines.now 0 (s.days * 24 * s.enrolled) (λ _. no_line)) register in
    let charges = c.clear-2.ensures.value ∙ ap (λ (s : Register). filled c.args.charges.now 0 (s.days * 24 * s.buyers) (λ _. no_charge)) register in
    record { value = (λ i. record { register = register i; hours = c.blank_hours.ensures.value i; lines = lines i; charges = charges i }) }
