use Rattle.book.specs.Calls.{Slip}
use Rattle.book.specs.Seen.{named_by}
use Rattle.long_run.proofs.trial.Trial.correct_within.Goals as goal

pub finish-requires : goal.finish-requires
finish-requires c =
    let slip : Slip = named_by c.in-Some.slip in
    c.one_call-in-Some.ensures.keeps slip (c.one_call.ensures.keeps slip c.in-Some.ensures.finishes)

pub returns-in-Some : goal.returns-in-Some
returns-in-Some c = record { keeps = λ s e. c.finish.ensures.keeps s (c.one_call-in-Some.ensures.keeps s (c.one_call.ensures.keeps s (c.in-Some.ensures.keeps s e))) (c.in-Some.ensures.apart s e) }
