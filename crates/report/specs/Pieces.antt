-- A text in pieces: byte 10 ends a line, and byte 32 stands before each number of a line.
use Rattle.std.specs.Prelude.{ℕ, cond, List, [], ◌∷◌, Some, None, Option, ◌==◌}

-- what stands before the first such byte
abbrev pub before : ℕ → List ℕ → List ℕ
before s [] = []
before s (b ∷ bs) = cond (b == s) [] (b ∷ before s bs)

-- what follows the first such byte, if it is there
abbrev pub behind : ℕ → List ℕ → Option (List ℕ)
behind s [] = None
behind s (b ∷ bs) = cond (b == s) (Some bs) (behind s bs)

-- a byte put in front of the first piece
abbrev pub onto : ℕ → List (List ℕ) → List (List ℕ)
onto b [] = (b ∷ []) ∷ []
onto b (p ∷ ps) = (b ∷ p) ∷ ps

-- the pieces between such bytes; `last` is what there is where no byte is left
abbrev pub pieces : List (List ℕ) → ℕ → List ℕ → List (List ℕ)
pieces last s [] = last
pieces last s (b ∷ bs) = cond (b == s) ([] ∷ pieces last s bs) (onto b (pieces last s bs))

-- the lines of a text: behind the last byte 10 there is no line unless there are bytes
abbrev pub lines_of : List ℕ → List (List ℕ)
lines_of text = pieces [] 10 text

-- the pieces of what follows a line's word
abbrev pub fields_in : Option (List ℕ) → List (List ℕ)
fields_in None = []
fields_in (Some bs) = pieces ([] ∷ []) 32 bs

abbrev pub word_of : List ℕ → List ℕ
word_of line = before 32 line

abbrev pub fields_of : List ℕ → List (List ℕ)
fields_of line = fields_in (behind 32 line)
