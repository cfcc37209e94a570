-- The lines of a text of bytes, and the taking of one line. Assumes nothing.
use Rattle.std.specs.Prelude.{◌≡◌, ℕ, ◌<◌, ◌≤◌, cond, List, [], ◌∷◌, length, drop, Some, None, Option, ◌==◌, ◌≢◌, slice_index}

-- a byte in front of the first line
abbrev pub glue : ℕ → List (List ℕ) → List (List ℕ)
glue b [] = (b ∷ []) ∷ []
glue b (l ∷ ls) = (b ∷ l) ∷ ls

-- each line ends with a line feed, which is no part of it and which the last line may lack
unfoldable pub lines : List ℕ → List (List ℕ)
lines [] = []
lines (b ∷ bs) = cond (b == 10) ([] ∷ lines bs) (glue b (lines bs))

-- the lines of what is left of a text behind its first `at` bytes
abbrev pub lines_from : ℕ → List ℕ → List (List ℕ)
lines_from at bytes = lines (drop at bytes)

-- what is taken of the lines before is their first, if there is one, and the others stay
abbrev pub Takes : List (List ℕ) → Option (List ℕ) → List (List ℕ) → Type 0
Takes before None after = (before ≡ []) × (after ≡ [])
Takes before (Some line) after = before ≡ line ∷ after

-- i is the first place of b in s, or the length of s where b does not stand in it
pub record First (b : ℕ) (s : List ℕ) (i : ℕ) : Type 0 where
  pub within : i ≤ length s
  pub before : (k : ℕ) → k < i → slice_index s k ≢ b
  pub found : i < length s → slice_index s i ≡ b
