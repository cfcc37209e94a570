use Rattle.std.proofs.Common.{◌≡◌, ℕ, Bool, ◌+◌, ◌-◌, ltb, ap, ◌∙◌, arith}
use Rattle.std.specs.declared.ops.Range.{Range}
use Rattle.calendars.specs.Walks.{first_from}
use Rattle.dates.specs.Dates.{days_in, start}
use Rattle.dates.proofs.MonthLaws.{start-next, told}
use Rattle.calendars.proofs.walks.first_in_month.Goals as goal

-- the walk from the first of a month to the first of the next
whole : (f : ℕ → Bool) (m a b : ℕ) → a ≡ start m → b ≡ start (m + 1) → first_from f a (b - a) ≡ first_from f (start m) (days_in m)
whole f m a b from to =
    let long : b - a ≡ days_in m = omega (arith, from, to, start-next m) in
    λ i. first_from f (from i) (long i)

pub returns : goal.returns
returns g c =
    let m = c.args.month in
    let t = told (ltb m 1200) c.in_ok-month.month (record { start = start m; end = start (m + 1) }) c.in_ok-month.ensures.is in
    let from = ap (λ (r : Range ℕ). r.start) t.1 in
    let to = ap (λ (r : Range ℕ). r.end) t.1 in
    c.first_between.ensures.is ∙ whole (g.S.DaySet.has c.args.days.now) m _ _ (omega (arith, from)) (omega (arith, to)) ∙ rw t.0
