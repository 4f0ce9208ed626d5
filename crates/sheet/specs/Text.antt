-- The text of a list of entries.
use Rattle.std.specs.Prelude.{ℕ, List, [], ◌∷◌, ◌++◌, codes}
use Rattle.std.specs.List.{flat_map}
use Rattle.sheet.specs.declared.entry.Key.{Key}
use Rattle.sheet.specs.declared.entry.Key.TheVariants.{Book, Month, Allotted, Correcting, Resource, Aggregator, Paid, Fined, Payer, Charged, Refunded}
use Rattle.sheet.specs.declared.entry.Entry.{Entry}
use Rattle.sheet.specs.Decimal.{signed}

abbrev pub key_text : Key → List ℕ
key_text Book = codes "book"
key_text Month = codes "month"
key_text Allotted = codes "allotted"
key_text Correcting = codes "correcting"
key_text Resource = codes "resource"
key_text Aggregator = codes "aggregator"
key_text Paid = codes "paid"
key_text Fined = codes "fined"
key_text Payer = codes "payer"
key_text Charged = codes "charged"
key_text Refunded = codes "refunded"

-- one line: the key, `=`, the number in decimals, and byte 10
abbrev pub line_text : Entry → List ℕ
line_text e = key_text e.key ++ (61 ∷ (signed e.number ++ (10 ∷ [])))

-- the lines, one after another
abbrev pub text_of : List Entry → List ℕ
text_of entries = flat_map line_text entries
