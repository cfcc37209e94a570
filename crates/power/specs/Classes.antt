-- The eleven classes of power: names, lengths of their periods, places, and how they hand over. Assumes nothing.
use Rattle.std.specs.Prelude.{ℕ, Bool, true, false, cond, List, [], ◌∷◌, Some, None, codes, Option, ◌==◌, slice_index, slice_index_or}
use Rattle.terms.specs.Chain.{Chain}

abbrev pub class_name : ℕ → Option (List ℕ)
class_name c =
    slice_index_or (Some (codes "M01") ∷ Some (codes "M02") ∷ Some (codes "M03") ∷ Some (codes "Q01") ∷ Some (codes "Q02") ∷ Some (codes "Q03") ∷ Some (codes "Q04") ∷ Some (codes "Y01") ∷ Some (codes "Y02") ∷ Some (codes "D01") ∷ Some (codes "D02") ∷ []) c None

-- the months of a class's period: a month, a quarter or a year
abbrev pub length_of : ℕ → ℕ
length_of c = slice_index (1 ∷ 1 ∷ 1 ∷ 3 ∷ 3 ∷ 3 ∷ 3 ∷ 12 ∷ 12 ∷ 1 ∷ 1 ∷ []) c

-- its place among those periods, counted from the one before the day's own: D02 is 0, D01 is 1, M01, Q01 and Y01 are 2
abbrev pub place_of : ℕ → ℕ
place_of c = slice_index (2 ∷ 3 ∷ 4 ∷ 2 ∷ 3 ∷ 4 ∷ 5 ∷ 2 ∷ 3 ∷ 1 ∷ 0 ∷ []) c

-- the class one place before, of the same length
abbrev pub earlier : ℕ → Option ℕ
earlier c = slice_index_or (Some 9 ∷ Some 0 ∷ Some 1 ∷ None ∷ Some 3 ∷ Some 4 ∷ Some 5 ∷ None ∷ Some 7 ∷ Some 10 ∷ None ∷ []) c None

abbrev pub chain : Chain
chain = record { size = 11; kind = length_of; place = place_of; earlier = earlier }

-- sets of classes, by number from M01 on
abbrev pub no_parts : List Bool
no_parts = false ∷ false ∷ false ∷ false ∷ false ∷ false ∷ false ∷ false ∷ false ∷ false ∷ false ∷ false ∷ []

-- M01, M02, M03
abbrev pub quarter_parts : List Bool
quarter_parts = true ∷ true ∷ true ∷ false ∷ false ∷ false ∷ false ∷ false ∷ false ∷ false ∷ false ∷ false ∷ []

-- M01, M02, M03, Q02, Q03, Q04
abbrev pub year_parts : List Bool
year_parts = true ∷ true ∷ true ∷ false ∷ true ∷ true ∷ true ∷ false ∷ false ∷ false ∷ false ∷ false ∷ []

-- what Q01 and Y01 cascade into
abbrev pub cascade : ℕ → List Bool
cascade c = cond (c == 3) quarter_parts (cond (c == 7) year_parts no_parts)
