use Rattle.std.proofs.Common.{refl, ap, ◌∙◌, unwrap_or}
use Rattle.ledger.specs.History.{day_after, net, since, costs, booked, final}
use Rattle.history.proofs.reading.Reading.start.Goals as goal

pub returns-clause-told : goal.returns-clause-told
unfolding day_after net since costs booked final
returns-clause-told g c = λ a. record {
  calls = refl;
  day = c.unwrap_or-day.ensures ∙ ap (λ o. unwrap_or o 0) c.first_in_month.ensures;
  nets = λ m h. c.no_lots.ensures m;
  finals = λ m h. c.no_finals.ensures m;
  since = λ m h. c.no_lots_by_class.ensures m;
  costs = refl;
  booked = refl;
}
