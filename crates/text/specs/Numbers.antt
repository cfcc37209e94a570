-- The numbers that ASCII digits write, without a minus and with one. Assumes nothing.
use Rattle.std.specs.Prelude.{ℕ, ◌+◌, ◌-◌, ◌*◌, Bool, cond, ◌&&◌, List, [], ◌∷◌, length, ℤ, pos, neg_ℤ, Some, None, Option, option_map, ◌==◌, nat_le}

abbrev pub is_digit : ℕ → Bool
is_digit b = nat_le 48 b && nat_le b 57

-- digits that follow those of n; no number where another byte comes
unfoldable pub read_on : ℕ → List ℕ → Option ℕ
read_on n [] = Some n
read_on n (b ∷ bs) = cond (is_digit b) (read_on (10 * n + (b - 48)) bs) None

-- 1 to 9 digits
unfoldable pub digits_value : List ℕ → Option ℕ
digits_value s = cond (nat_le 1 (length s) && nat_le (length s) 9) (read_on 0 s) None

-- the same, with at most one minus in front
unfoldable pub signed_value : List ℕ → Option ℤ
signed_value [] = None
signed_value (b ∷ bs) = cond (b == 45) (option_map (λ n. neg_ℤ (pos n)) (digits_value bs)) (option_map pos (digits_value (b ∷ bs)))
