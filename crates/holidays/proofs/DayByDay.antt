-- The days of those dates of 2008 that have one. Assumes nothing.
use Rattle.std.proofs.Common.{◌≡◌, ℕ, List, [], ◌∷◌, ◌++◌, Some, None, Option, refl, ap}
use Rattle.std.specs.List.{filter_map, cons_option}
use Rattle.std.specs.Option.{option_to_list}
use Rattle.holidays.specs.Builtin.{day_in2008, days_in2008}

pub filter_map-day_in2008 : (closed : List (ℕ × ℕ)) → filter_map day_in2008 closed ≡ days_in2008 closed
filter_map-day_in2008 [] = refl
filter_map-day_in2008 (x ∷ xs) = step (day_in2008 x) (filter_map-day_in2008 xs)
  where
    step : (o : Option ℕ) → filter_map day_in2008 xs ≡ days_in2008 xs → cons_option o (filter_map day_in2008 xs) ≡ option_to_list o ++ days_in2008 xs
    step None e = e
    step (Some day) e = ap (λ days. day ∷ days) e
