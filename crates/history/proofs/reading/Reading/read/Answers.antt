use Rattle.std.proofs.Common.{◌∷◌, Option, sym, subst}
use Rattle.history.proofs.Readings.{told-refused}
use Rattle.history.specs.Told.{Told}
use Rattle.ledger.specs.declared.fault.Fault.{Fault}
use Rattle.history.proofs.reading.Reading.read.Goals as goal

pub returns-in-Some-clause-told : goal.returns-in-Some-clause-told
returns-in-Some-clause-told g c start h t =
    let r = c.pass.ensures in
    let w = g.T.Terms.meaning c.args.terms.now in
    let k = c.args.entry.call in
    subst (λ (o : Option Fault). Told w start (record { call = k; answer = o } ∷ h) c.args.account c.pass.new.self) (sym c.in-Some.is) (told-refused w start h c.args.account c.args.self.now c.pass.new.self t r.0 r.1 r.2 r.3 r.4 r.5 r.6 k c.in-Some.field-0)
