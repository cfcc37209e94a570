use Rattle.std.proofs.Common.{◌≡◌, true, false, rules, tests}
use Rattle.std.proofs.lemmas.Iterator.{first_from_Range}
use Rattle.calendars.proofs.Firsts.{first_told}
use Rattle.calendars.proofs.walks.first_between.Goals as goal

pub returns : goal.returns
returns g c =
    let f = g.S.DaySet.has c.args.days.now in
    let t = first_told f c.args.from c.args.to c.find.result (first_from_Range _ _ _ _ (λ k. f k ≡ true) (λ k. f k ≡ false) c.find.ensures.ran (λ x q k. search (rules, tests)) (λ x q k. search (rules, tests))) in
    search (rules, tests, t)
