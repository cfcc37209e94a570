-- Each day has one date, and each date one day. Assumes nothing.
use Rattle.std.proofs.Common.{◌≡◌, ℕ, ◌+◌, ◌-◌, ◌*◌, ◌/◌, ◌%◌, ◌<◌, ◌≤◌, true, ltb, Some, sym, ap, ◌∙◌, arith}
use Rattle.std.proofs.lemmas.Bool.{and_from, and_parts, le-leb, lt-ltb, leb-true, ltb-true}
use Rattle.dates.specs.Dates.{days_in, start, month_of, InMonth, month_of_day, first_day}
use Rattle.dates.specs.Written.{date_in, date_of, month_of_date, is_date, day_of, DatesAndDays}
use Rattle.dates.specs.declared.date.Date.{Date}
use Rattle.dates.proofs.MonthLaws.{start-next, start-inside, month-holds, month-only, month-range, given, told}

-- a date's year, month and day are of the range
record Fits (x : Date) : Type 0 where
  year-from : 2000 ≤ x.year
  year-to : x.year < 2100
  month-from : 1 ≤ x.month
  month-to : x.month ≤ 12
  day-from : 1 ≤ x.day
  day-to : x.day ≤ days_in (month_of_date x)

is-date : (x : Date) → Fits x → is_date x ≡ true
is-date x f =
    and_from _ _ (le-leb 2000 x.year f.year-from) (and_from _ _ (lt-ltb x.year 2100 f.year-to) (and_from _ _ (le-leb 1 x.month f.month-from) (and_from _ _ (le-leb x.month 12 f.month-to) (and_from _ _ (le-leb 1 x.day f.day-from) (le-leb x.day _ f.day-to)))))

date-fits : (x : Date) → is_date x ≡ true → Fits x
date-fits x e =
    let a = and_parts _ _ e in
    let b = and_parts _ _ a.1 in
    let c = and_parts _ _ b.1 in
    let d = and_parts _ _ c.1 in
    let f = and_parts _ _ d.1 in
    record {
      year-from = leb-true 2000 _ a.0;
      year-to = ltb-true _ 2100 b.0;
      month-from = leb-true 1 _ c.0;
      month-to = leb-true _ 12 d.0;
      day-from = leb-true 1 _ f.0;
      day-to = leb-true _ _ f.1;
    }

-- the day of the n-th day of a month
day-in : (m n : ℕ) → m < 1200 → n < days_in m → day_of (date_in m n) ≡ Some (start m + n)
day-in m n h k =
    let e : 12 * (2000 + m / 12 - 2000) + (m % 12 + 1 - 1) ≡ m = omega arith in
    let fits : Fits (date_in m n) = record {
      year-from = omega arith;
      year-to = omega arith;
      month-from = omega arith;
      month-to = omega arith;
      day-from = omega arith;
      day-to = rw e (omega arith);
    } in
    let f : n + 1 - 1 ≡ n = omega arith in
    rw (is-date (date_in m n) fits, e, f)

there : (d : ℕ) (x : Date) → date_of d ≡ Some x → day_of x ≡ Some d
there d x e =
    let t = told (ltb d 36525) x (date_in (month_of d) (d - start (month_of d))) (sym e) in
    let h = month-holds d in
    let r = month-range (month_of d) d h.from (ltb-true d 36525 t.0) in
    let n = start-next (month_of d) in
    let back : start (month_of d) + (d - start (month_of d)) ≡ d = omega (arith, h.from) in
    rw t.1 (day-in (month_of d) (d - start (month_of d)) r (omega (arith, h.from, h.to)) ∙ ap Some back)

back : (x : Date) (d : ℕ) → day_of x ≡ Some d → date_of d ≡ Some x
back x d e =
    let m = month_of_date x in
    let t = told (is_date x) d (start m + (x.day - 1)) (sym e) in
    let f = date-fits x t.0 in
    let r : m < 1200 = omega (arith, f.year-to, f.year-from, f.month-to) in
    let i = start-inside m r in
    let on : InMonth d m = record { from = omega (arith, t.1); to = omega (arith, t.1, start-next m, f.day-to, f.day-from) } in
    let is = month-only d m on in
    let y : 2000 + m / 12 ≡ x.year = omega (arith, f.year-from, f.month-from, f.month-to) in
    let o : m % 12 + 1 ≡ x.month = omega (arith, f.year-from, f.month-from, f.month-to) in
    let n : d - start m + 1 ≡ x.day = omega (arith, t.1, f.day-from) in
    let same : date_in m (d - start m) ≡ x = λ i. record { year = y i; month = o i; day = n i } in
    sym (given d 36525 x (date_in (month_of d) (d - start (month_of d))) (omega (arith, t.1, f.day-to, f.day-from)) (sym same ∙ ap (λ k. date_in k (d - start k)) is))

pub dates-and-days : DatesAndDays
dates-and-days = record { there = there; back = back }

-- the date of a day, from the answers on its month
pub date-answer : (d m f : ℕ) → Some m ≡ month_of_day d → Some f ≡ first_day m → Some (date_in m (d - f)) ≡ date_of d
date-answer d m f e g =
    let a = told (ltb d 36525) m (month_of d) e in
    let b = told (ltb m 1200) f (start m) g in
    given d 36525 (date_in m (d - f)) (date_in (month_of d) (d - start (month_of d))) (ltb-true d 36525 a.0) (ap (λ k. date_in m (d - k)) b.1 ∙ ap (λ k. date_in k (d - start k)) a.1)
