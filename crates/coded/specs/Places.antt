-- Where a code stands in a list of codes. Assumes nothing.
use Rattle.std.specs.Prelude.{ℕ, suc, ◌<◌, cond, List, [], ◌∷◌, length, Some, None, Option, ◌==◌, slice_index}
use Rattle.std.specs.Option.{option_map}

-- each code is larger than those before it
abbrev pub Rising : List ℕ → Type 0
Rising xs = (i j : ℕ) → i < j → j < length xs → slice_index xs i < slice_index xs j

-- the first place at which a code stands
unfoldable pub place : List ℕ → ℕ → Option ℕ
place [] c = None
place (x ∷ xs) c = cond (x == c) (Some 0) (option_map suc (place xs c))
