-- Durum wheat: its expiries, its classes on each day, and the law of T01. Assumes nothing.
use Rattle.std.specs.Prelude.{◌≡◌, ℕ, ◌+◌, ◌-◌, ◌*◌, ◌/◌, ◌%◌, ◌<◌, ◌≤◌, Bool, true, false, cond, not, ◌&&◌, List, [], ◌∷◌, replicate, Some, None, codes, Option, MatchOption, ◌==◌, ◌≢◌, nat_le, nat_lt, slice_index, slice_index_or}
use Rattle.std.specs.Option.{unwrap_or}
use Rattle.dates.specs.Dates.{start, month_of}
use Rattle.calendars.specs.Sets.{between}
use Rattle.calendars.specs.Walks.{first_from, First}
use Rattle.terms.specs.Chain.{Chain, moves_up}
use Rattle.terms.specs.Listing.{listing}
use Rattle.terms.specs.Meaning.{Meaning, answers, months_of, successor}
use Rattle.terms.specs.declared.class_terms.ClassTerms.{ClassTerms}

-- the months of a year in which an expiry falls: March, May, September and December, counted from 0
abbrev pub expiry_months : List ℕ
expiry_months = 2 ∷ 4 ∷ 8 ∷ 11 ∷ []

-- how many expiries of a year come before each of its months
abbrev pub earlier_expiries : List ℕ
earlier_expiries = 0 ∷ 0 ∷ 0 ∷ 1 ∷ 1 ∷ 2 ∷ 2 ∷ 2 ∷ 2 ∷ 3 ∷ 3 ∷ 3 ∷ []

-- the month of an expiry: four to a year, numbered from 0, March 2000
abbrev pub expiry_month : ℕ → ℕ
expiry_month k = 12 * (k / 4) + slice_index expiry_months (k % 4)

-- how many expiries come before a month: the number of the first that does not
abbrev pub expiries_before : ℕ → ℕ
expiries_before m = 4 * (m / 12) + slice_index earlier_expiries (m % 12)

-- the tenth of an expiry's month
abbrev pub tenth : ℕ → ℕ
tenth k = start (expiry_month k) + 9

-- the last trading day of an expiry up to December 2099: the first open day from the tenth of its month on
unfoldable pub last_trading_day : (ℕ → Bool) → ℕ → Option ℕ
last_trading_day f k = cond (nat_lt k 400) (first_from f (tenth k) (36525 - tenth k)) None

-- the same as a number, beyond all days where there is none
abbrev pub last_day : (ℕ → Bool) → ℕ → ℕ
last_day f k = unwrap_or (last_trading_day f k) 36525

-- an expiry, or the next where its last trading day is past
abbrev pub not_past : (ℕ → Bool) → ℕ → ℕ → ℕ
not_past f k d = cond (nat_lt (last_day f k) d) (k + 1) k

-- the expiry of T01: the first from the day's month on that is not past
unfoldable pub front_expiry : (ℕ → Bool) → ℕ → ℕ
front_expiry f d = not_past f (expiries_before (month_of d)) d

-- T01, T02, T03, T04, T05 and DEL: their places, counted from the expiry before T01's
abbrev pub wheat_chain : Chain
wheat_chain = record {
  size = 6;
  kind = λ _. 0;
  place = λ c. slice_index (1 ∷ 2 ∷ 3 ∷ 4 ∷ 5 ∷ 0 ∷ []) c;
  earlier = λ c. slice_index_or (Some 5 ∷ Some 0 ∷ Some 1 ∷ Some 2 ∷ Some 3 ∷ None ∷ []) c None;
}

abbrev pub class_name : ℕ → Option (List ℕ)
class_name c =
    slice_index_or (Some (codes "T01") ∷ Some (codes "T02") ∷ Some (codes "T03") ∷ Some (codes "T04") ∷ Some (codes "T05") ∷ Some (codes "DEL") ∷ []) c None

-- at most six open days come after a day, as far as T01's last trading day and with it
abbrev pub is_near : (ℕ → Bool) → ℕ → ℕ → Bool
is_near f d last = nat_le (between f (d + 1) (last + 1)) 6

-- each class takes its own interval, but T01 takes DEL's where its last trading day is near
abbrev pub class_of_interval : Bool → ℕ → ℕ
class_of_interval near c = cond (c == 0 && near) 5 c

-- a class where T01 has the expiry k, from whether its last trading day is near and whether the day is that
abbrev pub class_from : ℕ → Bool → Bool → ℕ → ClassTerms
class_from k near lasts c = record {
  months = record { first = expiry_month (k + wheat_chain.place c - 1); count = 1 };
  tradable = not (c == 5);
  interval_class = class_of_interval near c;
  parts = replicate 12 false;
  successor = moves_up lasts (wheat_chain.earlier c) c;
}

-- a class on a day on which T01 has the expiry k
abbrev pub class_with : (ℕ → Bool) → ℕ → ℕ → ℕ → ClassTerms
class_with f d k c = class_from k (is_near f d (last_day f k)) (last_day f k == d) c

abbrev pub wheat_class : (ℕ → Bool) → ℕ → ℕ → ClassTerms
wheat_class f d c = class_with f d (front_expiry f d) c

-- durum wheat over the calendar with these open days: DEL settles, and each month has 50 tons
abbrev pub wheat : (ℕ → Bool) → Meaning
wheat f = listing f 6 5 (λ _. 50) (wheat_class f)

-- The law of T01, on every day for which wheat answers: T01 has the first expiry whose last trading day is not past.
pub record FrontIsFirstNotPast (f : ℕ → Bool) : Type 0 where
  -- every expiry has a last trading day, the first open day of its month from the tenth on
  pub in_month : (k : ℕ) → k < 400 → MatchOption (last_trading_day f k) ⊥ (First f (tenth k) (start (expiry_month k + 1)))
  -- T01 has the month of the expiry in front
  pub month : (d : ℕ) → answers (wheat f) d ≡ true → months_of ((wheat f).on d 0) ≡ Some (record { first = expiry_month (front_expiry f d); count = 1 })
  -- every expiry before it has its last trading day before the day; it and every later one, on the day or later
  pub past : (d k x : ℕ) → answers (wheat f) d ≡ true → k < front_expiry f d → last_trading_day f k ≡ Some x → x < d
  pub ahead : (d k x : ℕ) → answers (wheat f) d ≡ true → front_expiry f d ≤ k → last_trading_day f k ≡ Some x → d ≤ x
  -- on its last trading day each class hands over to the one before; on every other day each succeeds itself
  pub moves : (d c : ℕ) → answers (wheat f) d ≡ true → c < 6 → last_trading_day f (front_expiry f d) ≡ Some d → successor ((wheat f).on d c) ≡ wheat_chain.earlier c
  pub stays : (d c : ℕ) → answers (wheat f) d ≡ true → c < 6 → (last_trading_day f (front_expiry f d) ≢ Some d) → successor ((wheat f).on d c) ≡ Some c
