-- How reference days rank, and which of them are struck.
use Rattle.std.specs.Prelude.{ℕ, ◌-◌, Bool, ◌&&◌, ◌||◌, List, length, count_by, filter, ◌==◌, nat_le, nat_lt}
use Rattle.baseline.specs.declared.reference.Reference.{Reference}

-- days rank by load, and of equal loads the older day ranks lower
abbrev pub lower_load : Reference → Reference → Bool
lower_load a b = nat_lt a.load b.load || (a.load == b.load && nat_lt a.day b.day)

-- how many of the days rank lower than this one
abbrev pub rank : List Reference → Reference → ℕ
rank days r = count_by (λ other. lower_load other r) days

-- none of the `low` lowest and none of the `high` highest
abbrev pub stays : ℕ → ℕ → List Reference → Reference → Bool
stays low high days r = nat_le low (rank days r) && nat_lt (rank days r) (length days - high)

-- the days that are left once the `low` lowest and the `high` highest are struck
abbrev pub unstruck : ℕ → ℕ → List Reference → List Reference
unstruck low high days = filter (stays low high days) days
