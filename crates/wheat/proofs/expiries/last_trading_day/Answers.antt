use Rattle.std.proofs.Common.{◌≡◌, ℕ, ◌<◌, ◌≤◌, Option, sym, ◌∙◌, subst, MatchOption}
use Rattle.wheat.specs.Wheat.{last_trading_day}
use Rattle.wheat.specs.LastDays.{last-answer, no_answer, last-is, last-below}
use Rattle.wheat.specs.WheatLaws.{front-law}
use Rattle.wheat.proofs.expiries.last_trading_day.Goals as goal

pub returns-in_err-tenth-clause-is : goal.returns-in_err-tenth-clause-is
returns-in_err-tenth-clause-is g c = c.from_residual.ensures ∙ no_answer _ _ c.in_err-tenth.ensures.range

pub returns-in_err-tenth-clause-law : goal.returns-in_err-tenth-clause-law
returns-in_err-tenth-clause-law g c = front-law _ (g.met.C.Calendar.lawful c.args.calendar.now)

pub returns : goal.returns
returns g c =
    let f = g.C.Calendar.opens c.args.calendar.now in
    let law = g.met.C.Calendar.lawful c.args.calendar.now in
    let k = c.args.expiry in
    let h = c.in_ok-tenth.ensures.range in
    let is : c.first_between.result ≡ last_trading_day f k = c.first_between.ensures.is ∙ last-answer f k c.in_ok-tenth.tenth h c.in_ok-tenth.ensures.is in
    record {
      is = is;
      bound = subst (λ (o : Option ℕ). MatchOption o (400 ≤ k) (λ d. d < 36525)) (sym (is ∙ (last-is f law.four k h).0)) (last-below f law.four k h);
      law = front-law f law;
    }
