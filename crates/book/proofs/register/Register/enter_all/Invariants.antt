use Rattle.std.proofs.Common.{◌≡◌, get_or}
use Rattle.table.specs.Tables.{filled}
use Rattle.book.specs.Opening.{with_resources, resource_of, no_registration}
use Rattle.book.proofs.register.Register.enter_all.Given as goal

abbrev pub invariant-loop-place : goal.invariant-loop-place
invariant-loop-place l = l.self ≡ with_resources l.initial.self (filled l.initial.self.resources 0 l.place (λ j. resource_of (get_or l.registrations j no_registration)))
