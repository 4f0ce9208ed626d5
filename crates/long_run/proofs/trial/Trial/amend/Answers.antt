use Rattle.std.proofs.Common.{◌≡◌, None, sym, subst}
use Rattle.book.specs.declared.slip.Slip as handed
use Rattle.book.specs.Calls.{Slip, refusal}
use Rattle.book.specs.Calls.Call.{finish}
use Rattle.book.specs.Seen.{named_by}
use Rattle.desk.specs.Keeping.{on_desk}
use Rattle.long_run.proofs.trial.Trial.amend.Goals as goal

pub finish-requires : goal.finish-requires
finish-requires c =
    let slip : Slip = named_by c.args.slip in
    let P : handed.Slip → Type 0 = λ s. refusal (finish (named_by s)) (on_desk c.one_call-3.new.self.desk) ≡ None in
    subst P (sym c.in-Some.ensures.back) (c.one_call-3.ensures.keeps slip (c.correct_within.ensures.keeps slip (c.one_call-2.ensures.keeps slip (c.one_call.ensures.keeps slip c.requires))))
