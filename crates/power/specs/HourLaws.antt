-- Hours lie in the range of quantities. Assumes nothing.
use Rattle.std.specs.Prelude.{◌≡◌, ℕ, ◌+◌, ◌*◌, Some, nat_lt}
use Rattle.std.proofs.Common.{ap, ◌∙◌, arith}
use Rattle.std.proofs.lemmas.Bool.Decides.{nat_tests}
use Rattle.calendars.specs.Counts.{weekdays-before}
use Rattle.calendars.specs.Calendars.{weekdays}
use Rattle.calendars.specs.Sets.{between}
use Rattle.dates.proofs.MonthLaws.{given, month-told, start-next, start-rises, start-last, days-bounds}
use Rattle.dates.specs.Dates.{when, start, first_day, month_length}
use Rattle.power.specs.Hours.{baseload, peakload, Bounded}

pub baseload-bounded : Bounded baseload
baseload-bounded m h = let b = days-bounds m in grind (arith, nat_tests)

pub peakload-bounded : Bounded peakload
peakload-bounded m h =
    let r = start-rises (m + 1) 1200 (omega arith) in
    let n = start-next m in
    let b = days-bounds m in
    let l = start-last in
    let x = weekdays-before (start m) (omega arith) in
    let y = weekdays-before (start (m + 1)) (omega arith) in
    omega arith

pub peakload-answer : (m a n x : ℕ) → Some a ≡ first_day m → Some n ≡ month_length m → x ≡ 12 * between weekdays a (a + n) → Some x ≡ when (nat_lt m 1200) (peakload m)
peakload-answer m a n x first length e =
    let t = month-told m a n first length in
    given m 1200 x (peakload m) t.0 (e ∙ ap (λ k. 12 * between weekdays k (a + n)) t.1 ∙ ap (λ k. 12 * between weekdays (start m) k) t.2)
