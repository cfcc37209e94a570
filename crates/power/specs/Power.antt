-- What each class of power is on a day, over any calendar. Assumes nothing.
use Rattle.std.specs.Prelude.{ℕ, ◌+◌, ◌-◌, ◌*◌, ◌/◌, Bool, cond, not, ◌&&◌, ◌==◌, nat_le, nat_lt}
use Rattle.calendars.specs.Sets.{between}
use Rattle.dates.specs.Dates.{start, month_of}
use Rattle.power.specs.Classes.{length_of, place_of, earlier, no_parts, cascade}
use Rattle.terms.specs.Chain.{moves_up}
use Rattle.terms.specs.Listing.{listing}
use Rattle.terms.specs.Meaning.{Meaning, one}
use Rattle.terms.specs.declared.class_terms.ClassTerms.{ClassTerms}

-- how many open days come after a day within its period of k months: its month, its quarter or its year
abbrev pub left_of : (ℕ → Bool) → ℕ → ℕ → ℕ
left_of f k d = between f (d + 1) (start (k * (month_of d / k + 1)))

-- the number of the day's own period, one further on the last three open days of a quarter or a year
abbrev pub own : (ℕ → Bool) → ℕ → ℕ → ℕ
own f k d = month_of d / k + one (not (k == 1) && nat_lt (left_of f k d) 3)

-- the day after which the classes of a length move up: the last open day of a month, and the fourth last of a quarter or
-- of a year, on which Q01 and Y01 trade last
abbrev pub turns : (ℕ → Bool) → ℕ → ℕ → Bool
turns f k d = left_of f k d == cond (k == 1) 0 3

-- a class, from its own period, whether its length turns, the open days left in the month and whether Y02 is tradable
abbrev pub class_from : ℕ → Bool → ℕ → Bool → ℕ → ClassTerms
class_from period turning left second c = record {
  months = record { first = length_of c * (period + place_of c - 1); count = length_of c };
  tradable = cond (c == 8) second (nat_lt c 9);
  interval_class = cond (c == 0 && nat_le left 1) 9 c;
  parts = cond turning (cascade c) no_parts;
  successor = moves_up turning (earlier c) c;
}

abbrev pub power_class : (ℕ → Bool) → Bool → ℕ → ℕ → ClassTerms
power_class f second d c = class_from (own f (length_of c) d) (turns f (length_of c) d) (left_of f 1 d) second c

-- power over the open days f, with the hours q; D02 settles
abbrev pub power : (ℕ → Bool) → (ℕ → ℕ) → Bool → Meaning
power f q second = listing f 11 10 q (power_class f second)
