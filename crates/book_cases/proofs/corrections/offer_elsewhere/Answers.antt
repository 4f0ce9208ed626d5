use Rattle.std.proofs.Common.{◌≡◌, sym, subst}
use Rattle.book.specs.declared.slip.Slip.{Slip}
use Rattle.book.specs.Seen.{seen, named_by}
use Rattle.book.specs.Slips.{Finishes}
use Rattle.book.proofs.Finishing.{handed_back}
use Rattle.book_cases.proofs.corrections.offer_elsewhere.Goals as goal

-- the slip that comes back is the one of the book at home, where its hour is still in correction
pub finish-requires-in-Err : goal.finish-requires-in-Err
finish-requires-in-Err c =
    let same : c.in-Err.field-0.slip ≡ c.in_ok-slip.slip = handed_back _ _ c.in-Err.field-0 c.in-Err.ensures.answer in
    subst (λ (s : Slip). Finishes (seen c.reopen.new.self c.args.lines.now c.reopen.new.charges) (named_by s)) (sym same) c.in_ok-slip.ensures.finishes
