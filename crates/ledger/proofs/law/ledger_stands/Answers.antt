use Rattle.ledger.proofs.Standing.{ledger-stands}
use Rattle.ledger.proofs.law.ledger_stands.Goals as goal

pub returns : goal.returns
returns c = ledger-stands
