-- The laws of days and months. Assumes nothing.
use Rattle.std.proofs.Common.{◌≡◌, ℕ, zero, suc, ◌+◌, ◌-◌, ◌*◌, ◌/◌, ◌%◌, ◌<◌, ◌≤◌, Bool, true, false, cond, ◌&&◌, eqb, ltb, leb, get_or, Some, None, sym, refl, ap, ◌∙◌, ⊎_elim, add-zero, add-suc, suc-add, add-one, arith}
use Rattle.std.proofs.lemmas.Bool.{eqb-true, eqb-false, leb-true, ltb-true, and_parts, cases_lt, cases_order, cond_below, cond_above, cond_both}
use Rattle.dates.specs.Dates.{when, days_in, start, month_of, InMonth, DaysAndMonths, first_day, month_length}
use Rattle.dates.specs.declared.months.TheConstants.{CYCLE_STARTS}
use Rattle.dates.proofs.Below.{at, table}

pub start-next : (m : ℕ) → start (m + 1) ≡ start m + days_in m
unfolding start
start-next m = rw add-one

-- what a month's days are is told by its place in four years
days-place : (m : ℕ) → days_in m ≡ days_in (m % 48)
days-place m =
    let e : m % 48 % 12 ≡ m % 12 = omega arith in
    let f : m % 48 % 48 ≡ m % 48 = omega arith in
    rw (e, f)

abbrev in_bounds : ℕ → Bool
in_bounds k = leb 28 (days_in k) && leb (days_in k) 31

pub days-bounds : (m : ℕ) → (28 ≤ days_in m) × (days_in m ≤ 31)
days-bounds m =
    let t = and_parts _ _ (at in_bounds 48 refl (m % 48) (omega arith)) in
    rw days-place (leb-true _ _ t.0, leb-true _ _ t.1)

pub start-most : (m : ℕ) → start m ≤ 31 * m
unfolding start
start-most zero = omega arith
start-most (suc m) = omega (arith, start-most m, days-bounds m)

start-more : (m k : ℕ) → start m ≤ start (m + k)
unfolding start
start-more m zero = rw add-zero (omega arith)
start-more m (suc k) = rw add-suc (omega (arith, start-more m k))

pub start-rises : (m n : ℕ) → m ≤ n → start m ≤ start n
start-rises m n h = let e : m + (n - m) ≡ n = omega arith in rw e at (start-more m (n - m))

-- one day on, the month stays or turns
turn : (d m : ℕ) → start m ≤ d → d < start (suc m) → let n = cond (eqb (suc d) (start (suc m))) (suc m) m in (start n ≤ suc d) × (suc d < start (suc n))
unfolding start
turn d m low high =
    cond_both (eqb (suc d) (start (suc m))) (suc m) m (λ n. (start n ≤ suc d) × (suc d < start (suc n)))
    (λ e. omega (arith, eqb-true _ _ e, days-bounds (suc m)))
    (λ e. omega (arith, eqb-false _ _ e))

turns : (d : ℕ) → (start (month_of d) ≤ d) × (d < start (suc (month_of d)))
unfolding start month_of
turns zero = omega arith
turns (suc d) = turn d (month_of d) (turns d).0 (turns d).1

pub month-holds : (d : ℕ) → InMonth d (month_of d)
month-holds d = record { from = (turns d).0; to = rw add-one (turns d).1 }

pub month-only : (d m : ℕ) → InMonth d m → m ≡ month_of d
month-only d m h =
    let t = month-holds d in
    ⊎_elim (λ e. e)
    (⊎_elim (λ l. absurd (omega (arith, h.to, t.from, start-rises (m + 1) (month_of d) (omega arith))))
    (λ l. absurd (omega (arith, h.from, t.to, start-rises (month_of d + 1) m (omega arith)))))
    (cases_order m (month_of d))

-- a day before a month's start lies in an earlier month, and a day from its start on in that month or a later one
pub month-below : (d m : ℕ) → d < start m → month_of d < m
month-below d m h =
    ⊎_elim (λ l. l) (λ l. absurd (omega (arith, (month-holds d).from, start-rises m (month_of d) l))) (cases_lt (month_of d) m)

pub month-from : (d m : ℕ) → start m ≤ d → m ≤ month_of d
month-from d m h =
    ⊎_elim (λ l. absurd (omega (arith, (month-holds d).to, start-rises (month_of d + 1) m (omega arith)))) (λ l. l) (cases_lt (month_of d) m)

pub days-and-months : DaysAndMonths
days-and-months = record { lies = month-holds; only = month-only }

-- four years have 1,461 days
start-cycle : (m : ℕ) → start (m + 48) ≡ start m + 1461
unfolding start
start-cycle zero = refl
start-cycle (suc m) =
    let e : (m + 48) % 48 ≡ m % 48 = omega arith in
    let f : days_in (m + 48) ≡ days_in m = days-place (m + 48) ∙ ap days_in e ∙ sym (days-place m) in
    rw suc-add (omega (arith, start-cycle m, f))

pub start-cycles : (q m : ℕ) → start (48 * q + m) ≡ 1461 * q + start m
start-cycles zero m = let e : 48 * 0 + m ≡ m = omega arith in rw e (omega arith)
start-cycles (suc q) m =
    let e : 48 * suc q + m ≡ (48 * q + m) + 48 = omega arith in
    rw e (omega (arith, start-cycle (48 * q + m), start-cycles q m))

-- a day of a month of a cycle, in each later cycle
pub in-cycles : (q d m : ℕ) → InMonth d m → InMonth (1461 * q + d) (48 * q + m)
in-cycles q d m h =
    let e : 48 * q + m + 1 ≡ 48 * q + (m + 1) = omega arith in
    record { from = omega (arith, start-cycles q m, h.from); to = rw e (omega (arith, start-cycles q (m + 1), h.to)) }

-- the code's table of the days of a cycle before each of its months
pub cycle-starts : (k : ℕ) → k < 49 → get_or CYCLE_STARTS k 0 ≡ start k
unfolding start
cycle-starts k h = table CYCLE_STARTS start refl k h

-- within a cycle no month is longer than 31 days, and two months are longer than any day's number in them tells
abbrev two_on : ℕ → Bool
two_on g = leb (31 * g + 31) (start (g + 2))

two-on : (d : ℕ) → d < 1461 → d < start (d / 31 + 2)
unfolding start
two-on d h = omega (arith, leb-true _ _ (at two_on 48 refl (d / 31) (omega arith)))

start-whole : start 48 ≡ 1461
unfolding start
start-whole = refl

pub cycle-later : (d : ℕ) → d < 1461 → start (d / 31 + 1) ≤ d → InMonth d (d / 31 + 1) × (d / 31 + 1 < 48)
cycle-later d h low =
    let e : d / 31 + 1 + 1 ≡ d / 31 + 2 = omega arith in
    (record { from = low; to = rw e (two-on d h) }, ⊎_elim (λ l. l) (λ l. absurd (omega (arith, start-whole, start-rises 48 (d / 31 + 1) l))) (cases_lt (d / 31 + 1) 48))

pub cycle-least : (d : ℕ) → d < 1461 → d < start (d / 31 + 1) → InMonth d (d / 31) × (d / 31 < 48)
cycle-least d h high = (record { from = omega (arith, start-most (d / 31)); to = high }, omega arith)

-- the range ends with December 2099
pub start-last : start 1200 ≡ 36525
unfolding start
start-last = refl

-- a month that starts by a day of the range lies in the range
pub month-range : (m d : ℕ) → start m ≤ d → d < 36525 → m < 1200
month-range m d low high =
    ⊎_elim (λ h. h) (λ h. absurd (omega (arith, start-rises 1200 m h, start-last))) (cases_lt m 1200)

-- an answer that is given below a bound, or is not
pub given : {A : Type 0} (k n : ℕ) (x y : A) → k < n → x ≡ y → Some x ≡ when (ltb k n) y
given k n x y h e = ap Some e ∙ cond_below k n (Some y) None h

pub not-given : {A : Type 0} (k n : ℕ) (y : A) → n ≤ k → None ≡ when (ltb k n) y
not-given k n y h = cond_above k n (Some y) None None h refl

pub told : {A : Type 0} (b : Bool) (x y : A) → Some x ≡ when b y → (b ≡ true) × (x ≡ y)
told true x y e = (refl, cc)
told false x y e = absurd cc

-- the days of a month, from the answers on its first day and its length
pub month-told : (m a n : ℕ) → Some a ≡ first_day m → Some n ≡ month_length m → (m < 1200) × (a ≡ start m) × (a + n ≡ start (m + 1))
month-told m a n e f =
    let x = told (ltb m 1200) a (start m) e in
    let y = told (ltb m 1200) n (days_in m) f in
    (ltb-true m 1200 x.0, x.1, omega (arith, x.1, y.1, start-next m))

-- what the months' answers are, from what the cycle's are
pub month-answer : (d m : ℕ) → d < 36525 → InMonth (d % 1461) m → InMonth d (48 * (d / 1461) + m) × (48 * (d / 1461) + m < 1200)
month-answer d m h i =
    let e : 1461 * (d / 1461) + d % 1461 ≡ d = omega arith in
    let t = rw e at (in-cycles (d / 1461) (d % 1461) m i) in
    (t, month-range _ d t.from h)

pub start-answer : (m : ℕ) → 1461 * (m / 48) + start (m % 48) ≡ start m
start-answer m =
    let e : 48 * (m / 48) + m % 48 ≡ m = omega arith in
    sym (start-cycles (m / 48) (m % 48)) ∙ ap start e

pub start-inside : (m : ℕ) → m < 1200 → start m + days_in m ≤ 36525
start-inside m h = omega (arith, start-next m, start-rises (m + 1) 1200 (omega arith), start-last)
