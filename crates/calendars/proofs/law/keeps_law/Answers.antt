use Rattle.std.proofs.Common.{ℕ, ◌+◌, ◌<◌, ◌≤◌, refl, rules, tests}
use Rattle.std.proofs.lemmas.Iterator.{cases_from_all, YieldsList-from_range}
use Rattle.dates.specs.Dates.{start}
use Rattle.calendars.specs.Sets.{between}
use Rattle.calendars.proofs.CountedDays.{asked_below}
use Rattle.calendars.proofs.law.keeps_law.Goals as goal

pub returns : goal.returns
returns g c =
    let after : ℕ → ℕ = λ m. between (g.S.DaySet.has c.args.days.now) (start m + 9) (start (m + 1)) in
    asked_below after 1200 c.all.result (cases_from_all _ _ _ (λ m. m < 1200 → 4 ≤ after m) (λ m. m < 1200 → after m < 4) c.all.ensures.ran (YieldsList-from_range 0 1200 1200 refl refl) (λ x q k. search (rules, tests)) (λ x q k. search (rules, tests)))
