use Rattle.std.proofs.Common.{◌*◌, replicate, ℤ, ◌∙◌, ap₂}
use Rattle.table.specs.Lines.{no_charge}
use Rattle.table.specs.Tables.{filled}
use Rattle.book.specs.State.{State, paid_in, fined_in}
use Rattle.book.specs.Calls.{charges_of}
use Rattle.book.specs.Seen.{seen}
use Rattle.book.proofs.Charged.{filled_from_row, narrowed}
use Rattle.book.proofs.book.Book.charge_hour.Goals as goal

pub returns : goal.returns
returns c =
    let z = c.args.self.now in
    let b : State = seen z c.args.lines.now c.args.charges.now in
    let bound = c.amounts_in-sums.ensures.bounded in
    let paid = narrowed c.amounts_in-sums.result.due bound.0 ∙ c.amounts_in-sums.ensures.due in
    let fined = narrowed c.amounts_in-sums.result.back bound.1 ∙ c.amounts_in-sums.ensures.back in
    let row = c.charge_row-row.ensures.value ∙ ap₂ (λ (x y : ℤ). filled (replicate 8 no_charge) 0 8 (charges_of x y c.args.energies.purchases)) paid fined in
    record {
      value = c.put_row.ensures.value
          ∙ filled_from_row c.args.charges.now c.charge_row-row.result (c.args.h.number * z.register.buyers) z.register.buyers (charges_of (paid_in b c.args.h.number) (fined_in b c.args.h.number) c.args.energies.purchases) z.buyers_few row;
    }
