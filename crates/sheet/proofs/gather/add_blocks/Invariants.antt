use Rattle.std.proofs.Common.{◌≡◌, ℕ, ◌+◌, ◌*◌, ◌<◌, List, ◌++◌, length}
use Rattle.sheet.specs.declared.entry.Entry.{Entry}
use Rattle.sheet.specs.Evening.{joined_to}
use Rattle.sheet.proofs.gather.add_blocks.Given as goal

abbrev pub invariant-loop-k : goal.invariant-loop-k
invariant-loop-k g l =
    (length l.entries.items ≡ length l.initial.entries.items + l.k * g.row.N)
    × ((blocks : ℕ → List Entry) → ((k : ℕ) (r : _) → k < l.count → goal.B-post g l.block k r → g.T.AsSlice.items r ≡ blocks k) → l.entries.items ≡ l.initial.entries.items ++ joined_to l.k blocks)
