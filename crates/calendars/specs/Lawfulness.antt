-- The weekday and list calendars keep the law. Assumes nothing.
use Rattle.std.specs.Prelude.{ℕ, ◌+◌, List}
use Rattle.std.proofs.Common.{arith}
use Rattle.std.proofs.lemmas.Bool.{and_left, le-ltb}
use Rattle.dates.specs.Dates.{start}
use Rattle.dates.proofs.MonthLaws.{start-next, start-rises, start-last, days-bounds}
use Rattle.calendars.specs.Calendars.{Lawful, Four, weekdays, listed}
use Rattle.calendars.specs.Counts.{weekdays-before}

pub weekdays-lawful : Lawful weekdays
weekdays-lawful = record {
  closed = λ d h. and_left _ _ (le-ltb d 36525 h);
  four = λ m h.
      let r = start-rises (m + 1) 1200 (omega arith) in
      let n = start-next m in
      let k = days-bounds m in
      let l = start-last in
      let x = weekdays-before (start m + 9) (omega arith) in
      let y = weekdays-before (start (m + 1)) (omega arith) in
      omega arith;
}

pub listed-lawful : (xs : List ℕ) → Four (listed xs) → Lawful (listed xs)
listed-lawful xs four = record { closed = λ d h. and_left _ _ (and_left _ _ (le-ltb d 36525 h)); four = four }
