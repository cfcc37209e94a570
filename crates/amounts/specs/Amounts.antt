-- Margins and payments of one account in one class, in whole cents. Assumes nothing.
-- q is a quantity, h or lots are lots, i is an interval in hundredths of a percent, s is a step's factor.
use Rattle.std.specs.Prelude.{◌≡◌, ℕ, ◌/◌, cond, List, [], ◌∷◌, map, ℤ, pos, negsuc, ◌+ℤ◌, ◌-ℤ◌, ◌*ℤ◌, neg_ℤ, ◌≤ℤ◌, ◌<ℤ◌, fold, All, Contains, int_lt}
use Rattle.std.specs.Int.{int_min}
use Rattle.amounts.specs.Steps.{steps}

-- z ÷ d rounded down, below zero too
abbrev pub floor_by : ℕ → ℤ → ℤ
floor_by d (pos a) = pos (a / d)
floor_by d (negsuc a) = negsuc (a / d)

-- r is the greatest whole number that is at most z ÷ d
pub record Brackets (d : ℕ) (z r : ℤ) : Type 0 where
  pub below : (pos d *ℤ r) ≤ℤ z
  pub above : z <ℤ (pos d *ℤ (r +ℤ pos 1))

abbrev pub step_product : ℤ → ℕ → ℕ → ℤ → ℤ → ℤ
step_product price i q h s = price *ℤ pos i *ℤ s *ℤ pos q *ℤ h

abbrev pub step_result : ℤ → ℕ → ℕ → ℤ → ℤ → ℤ
step_result price i q h s = floor_by 50000 (step_product price i q h s)

-- in the order of the steps, D5 to D1 and then U1 to U5
abbrev pub ten_results : ℤ → ℕ → ℕ → ℤ → List ℤ
ten_results price i q h = map (step_result price i q h) steps

-- the least of a list, and 0 for the empty one
abbrev pub least_of : List ℤ → ℤ
least_of [] = pos 0
least_of (x ∷ xs) = fold int_min x xs

unfoldable pub class_margin : ℤ → ℕ → ℕ → ℤ → ℤ
class_margin price i q h = least_of (ten_results price i q h)

-- r is at most each of the ten results and is one of them, and it is never positive
pub record LeastOfTen (price : ℤ) (i q : ℕ) (h r : ℤ) : Type 0 where
  pub at_most : All (λ x. r ≤ℤ x) (ten_results price i q h)
  pub one_of : Contains (ten_results price i q h) r
  pub never_positive : r ≤ℤ pos 0

abbrev pub repricing_addition : ℕ → ℤ → ℤ → ℤ → ℤ
repricing_addition q h repriced last = pos q *ℤ h *ℤ (repriced -ℤ last)

-- a sum, or 0 if it is positive
abbrev pub total_margin : ℤ → ℤ
total_margin sum = cond (int_lt (pos 0) sum) (pos 0) sum

pub record Capped (sum r : ℤ) : Type 0 where
  pub at_most : r ≤ℤ sum
  pub never_positive : r ≤ℤ pos 0

-- by the day's price and the lots now, the last price and the lots at the last close, and the lots and the cost of the
-- day's trades, a buy positive and a sell negative
abbrev pub variation : ℕ → ℤ → ℤ → ℤ → ℤ → ℤ → ℤ
variation q price lots last traded cost = pos q *ℤ (price *ℤ lots -ℤ last *ℤ (lots -ℤ traded) -ℤ cost)

-- q is the part's quantity; part and whole are their last prices
abbrev pub part_payment : ℕ → ℤ → ℤ → ℤ → ℤ
part_payment q lots part whole = pos q *ℤ lots *ℤ (part -ℤ whole)

abbrev pub final_payment : ℕ → ℤ → ℤ → ℤ → ℤ
final_payment q lots final last = pos q *ℤ lots *ℤ (final -ℤ last)

-- what one side is paid, the other pays
pub record OtherSidePays : Type 0 where
  pub variations : (q : ℕ) (price lots last traded cost : ℤ) → variation q price (neg_ℤ lots) last (neg_ℤ traded) (neg_ℤ cost) ≡ neg_ℤ (variation q price lots last traded cost)
  pub parts : (q : ℕ) (lots part whole : ℤ) → part_payment q (neg_ℤ lots) part whole ≡ neg_ℤ (part_payment q lots part whole)
  pub finals : (q : ℕ) (lots final last : ℤ) → final_payment q (neg_ℤ lots) final last ≡ neg_ℤ (final_payment q lots final last)
