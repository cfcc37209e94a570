-- The bench's figures, by the definitions that the contracts of the code use. Assumes nothing.
use Rattle.std.specs.Prelude.{◌≡◌, ℕ, true, [], cond, ℤ, pos, negsuc, Some, None, Option, ◌==◌}
use Rattle.amounts.specs.Amounts.{class_margin}
use Rattle.amounts.specs.SumsOfWhole.{if_z}
use Rattle.calendars.specs.Calendars.{weekdays}
use Rattle.figures.specs.Products.{baseload_terms}
use Rattle.ledger.specs.Calls.{today, parts_pay, paid}
use Rattle.ledger.specs.Make.{made_of}
use Rattle.ledger.specs.State.{State, nil_row, quantity_now}
use Rattle.ledger.specs.declared.call.Call.TheVariants.{Settle}
use Rattle.power.specs.Hours.{baseload, peakload}
use Rattle.terms.specs.Meaning.{Meaning, has_some_part, successor, class_quantity}
use Rattle.wheat.specs.Wheat.{wheat}

-- Baseload and wheat on the weekday calendar
abbrev pub weekday_baseload : Meaning
weekday_baseload = baseload_terms weekdays

abbrev pub weekday_wheat : Meaning
weekday_wheat = wheat weekdays

-- two accounts on a day; account 0 holds so many lots of one class, with last prices, day's prices and repricings
abbrev pub holder : ℕ → ℕ → ℤ → (ℕ → Option ℤ) → (ℕ → Option ℤ) → (ℕ → Option ℤ) → State
holder day class lots last today repriced = record {
  made = made_of 98 2 [];
  market = record { day = day; accepted = 1; last = last; today = today; repriced = repriced };
  rows = λ a. record nil_row { lots = λ c. if_z (a == 0) (if_z (c == class) lots) };
}

abbrev pub only : ℕ → ℤ → ℕ → Option ℤ
only class price c = cond (c == class) (Some price) None

-- one long Q01 on 26 March 2008 at Q01 7,050, M01 7,000, M02 7,100, M03 7,060
abbrev pub cascade_prices : ℕ → Option ℤ
cascade_prices c = cond (c == 3) (Some (pos 7050)) (cond (c == 0) (Some (pos 7000)) (cond (c == 1) (Some (pos 7100)) (only 2 (pos 7060) c)))

abbrev pub cascading : State
cascading = holder 3007 3 (pos 1) (only 3 (pos 7050)) cascade_prices (λ c. None)

-- three short D02 on 5 May 2008, when D02 is April: last price 6,000, repriced 6,400
abbrev pub settling : State
settling = holder 3047 10 (negsuc 2) (only 10 (pos 6000)) (λ c. None) (only 10 (pos 6400))

pub record Figures : Type 0 where
  -- Baseload hours of March 2008; of the first quarter and of the year, as Q01 and Y01 on 3 December 2007
  pub march : baseload 98 ≡ 743
  pub quarter : class_quantity weekday_baseload (weekday_baseload.on 2893 3) ≡ 2183
  pub year : class_quantity weekday_baseload (weekday_baseload.on 2893 7) ≡ 8784
  -- Peakload hours of January 2021
  pub peak : peakload 252 ≡ 252
  -- 26 March 2008 is the last trading day of Q01, 26 December 2008 of Y01, 12 May 2008 of T01
  pub last-of-q01 : has_some_part (weekday_baseload.on 3007 3) ≡ true
  pub last-of-y01 : has_some_part (weekday_baseload.on 3282 7) ≡ true
  pub last-of-t01 : successor (weekday_wheat.on 3054 0) ≡ Some 5
  -- the cascading pays 8,400
  pub parts : parts_pay (today weekday_baseload cascading) cascading.market (cascading.rows 0) ≡ pos 8400
  -- price −100, interval 500, quantity 720, two lots; price 3, interval 1, quantity 50, one lot
  pub margin_below : class_margin (negsuc 99) 500 720 (pos 2) ≡ negsuc 7199
  pub margin_rounded : class_margin (pos 3) 1 50 (pos 1) ≡ negsuc 0
  -- the final settlement at 6,500 goes by the last price, and April has 720 hours
  pub april : quantity_now weekday_baseload settling 10 ≡ 720
  pub settled : paid weekday_baseload settling (Settle (pos 6500) 2) 0 ≡ negsuc 1079999
