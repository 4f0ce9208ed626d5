-- The words that a line may begin with.
use Rattle.std.specs.Prelude.{ℕ, cond, List, [], ◌∷◌, Ok, Err, codes, Result}
use Rattle.std.specs.Str.{bytes_eq}
use Rattle.report.specs.declared.fault.Fault.{Fault}
use Rattle.report.specs.declared.fault.Fault.TheVariants.{UnknownWord}
use Rattle.report.specs.declared.word.Word.{Word}
use Rattle.report.specs.declared.word.Word.TheVariants.{Day, Customers, Workday, Holiday, LeftOut, Start, Load, Reading, Settle, Energy}

abbrev pub words : List (List ℕ × Word)
words =
    (codes "day", Day)
    ∷ (codes "customers", Customers)
    ∷ (codes "workday", Workday)
    ∷ (codes "holiday", Holiday)
    ∷ (codes "leftout", LeftOut)
    ∷ (codes "start", Start)
    ∷ (codes "load", Load)
    ∷ (codes "reading", Reading)
    ∷ (codes "settle", Settle)
    ∷ (codes "energy", Energy)
    ∷ []

-- the word of the first row that has the text
abbrev pub word_among : List (List ℕ × Word) → List ℕ → Result Word Fault
word_among [] text = Err UnknownWord
word_among (row ∷ rows) text = cond (bytes_eq text row.0) (Ok row.1) (word_among rows text)

abbrev pub word_named : List ℕ → Result Word Fault
word_named text = word_among words text
