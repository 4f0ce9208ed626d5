use Rattle.std.proofs.Common.{◌+◌, ◌<◌, length, arith, length-drop}
use Rattle.std.proofs.lemmas.List.{drop-drop, drop-set-lt, take_more_set}
use Rattle.sheet.proofs.page.PageSink.put.Goals as goal

pub returns : goal.returns
returns c =
    let page = c.args.self.now in
    let room : page.next < length page.buffer.now = omega (arith, simp length-drop at c.requires) in
    record { value = rw (take_more_set page.buffer.now page.next c.args.byte room, drop-set-lt (page.next + 1) page.buffer.now page.next c.args.byte (omega arith), drop-drop 1 page.next page.buffer.now) }
