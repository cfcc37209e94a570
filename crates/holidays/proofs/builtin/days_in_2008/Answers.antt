use Rattle.std.proofs.Common.{rules, tests}
use Rattle.std.proofs.lemmas.Iterator.{items_from_collect, YieldsList-from_slice}
use Rattle.std.proofs.lemmas.Iterator.Consumers.{YieldsList-from_filter_map}
use Rattle.holidays.specs.Builtin.{day_in2008}
use Rattle.holidays.proofs.DayByDay.{filter_map-day_in2008}
use Rattle.holidays.proofs.builtin.days_in_2008.Goals as goal

pub returns : goal.returns
returns c =
    rw (← filter_map-day_in2008 c.args.closed.now) (items_from_collect _ c.collect.ensures.ran (YieldsList-from_filter_map _ day_in2008 (YieldsList-from_slice c.args.closed.now cc) c.filter_map.ensures.closure (λ x r q k. search (rules, tests))))
