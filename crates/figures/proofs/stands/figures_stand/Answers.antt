use Rattle.std.proofs.Common.{refl}
use Rattle.amounts.specs.Amounts.{class_margin}
use Rattle.calendars.specs.Sets.{before}
use Rattle.calendars.specs.Walks.{first_from}
use Rattle.dates.specs.Dates.{start, month_of}
use Rattle.terms.specs.Meaning.{class_quantity}
use Rattle.wheat.specs.Wheat.{last_trading_day, front_expiry}
use Rattle.figures.proofs.stands.figures_stand.Goals as goal

pub returns : goal.returns
unfolding start month_of before first_from class_quantity last_trading_day front_expiry class_margin
returns c = record {
  march = refl;
  quarter = refl;
  year = refl;
  peak = refl;
  last-of-q01 = refl;
  last-of-y01 = refl;
  last-of-t01 = refl;
  parts = refl;
  margin_below = refl;
  margin_rounded = refl;
  april = refl;
  settled = refl;
}
