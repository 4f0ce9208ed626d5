use Rattle.std.proofs.Common.{[], length, ap, rules}
use Rattle.book.specs.Seen.{seen}
use Rattle.sheet.specs.Evening.{resource_entries, buyer_entries, sheet_entries}
use Rattle.sheet.proofs.gather.gather.Goals as goal

pub add_blocks-requires-clause-long : goal.add_blocks-requires-clause-long
add_blocks-requires-clause-long c k r l p = ap length p

pub add_blocks-requires-2-clause-long : goal.add_blocks-requires-2-clause-long
add_blocks-requires-2-clause-long c k r l p = ap length p

pub returns : goal.returns
unfolding sheet_entries
returns c =
    let resources = c.add_blocks.ensures.value (resource_entries (seen c.args.book.now c.args.lines.now [])) (λ k r l p. p) in
    let buyers = c.add_blocks-2.ensures.value (buyer_entries (seen c.args.book.now [] c.args.charges.now)) (λ k r l p. p) in
    rw (buyers, resources, c.add.ensures.value, c.new-entries.ensures, c.head_block.ensures.value, c.register-register.ensures.value) (search rules)
