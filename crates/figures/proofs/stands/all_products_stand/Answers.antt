use Rattle.ledger.proofs.Standing.{ledger-stands}
use Rattle.power.specs.HourLaws.{baseload-bounded, peakload-bounded}
use Rattle.power.specs.PowerLaws.{power-laws}
use Rattle.wheat.specs.WheatLaws.{wheat-laws}
use Rattle.figures.proofs.stands.all_products_stand.Goals as goal

pub returns : goal.returns
returns g c =
    let lawful = g.met.C.Calendar.lawful c.args.calendar.now in
    record {
      baseload_law = ledger-stands _ (power-laws _ _ _ lawful baseload-bounded);
      peakload_law = ledger-stands _ (power-laws _ _ _ lawful peakload-bounded);
      wheat_law = ledger-stands _ (wheat-laws _ lawful);
    }
