-- The energies of an hour, as they are told and kept.
use Rattle.std.specs.Prelude.{ℕ, ◌+◌, ◌-◌, not, ◌||◌, List, [], ◌∷◌, length, replicate, sum, Option, ◌==◌, nat_lt, slice_index, slice_set}
use Rattle.refusal.specs.declared.Refusal.{Refusal}
use Rattle.refusal.specs.declared.Refusal.TheVariants.{BadTotal, PurchaseCount, PurchasesExceedTotal}
use Rattle.refusal.specs.Tests.{refused_if}
use Rattle.table.specs.Tables.{filled}
use Rattle.book.specs.declared.energies.Energies.{Energies}

-- what a total and the purchases of the buyers but the retailer are tested for
abbrev pub energies_tests : ℕ → ℕ → List ℕ → List (Option Refusal)
energies_tests buyers total others =
    refused_if (total == 0 || nat_lt 150000000 total) BadTotal
    ∷ refused_if (not (length others + 1 == buyers)) PurchaseCount
    ∷ refused_if (nat_lt total (sum others)) PurchasesExceedTotal
    ∷ []

-- the retailer, who is buyer 0, purchased what the others left of the total
abbrev pub energies_of : ℕ → List ℕ → Energies
energies_of total others = record { total = total; purchases = slice_set (filled (replicate 8 0) 1 (length others) (λ k. slice_index others k)) 0 (total - sum others) }

-- the purchase of buyer k
abbrev pub purchase : Energies → ℕ → ℕ
purchase e k = slice_index e.purchases k
