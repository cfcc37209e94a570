use Rattle.std.proofs.Common.{◌≡◌, ℕ, List, true, false, None, Some, Option, IfOk, MatchOption, ok_or}
use Rattle.rows.proofs.Naming.{fit_holds}
use Rattle.rows.specs.Columns.{names_fit, places_of, HoldsItsName}
use Rattle.rows.specs.Fields.{fields}
use Rattle.rows.specs.declared.fault.SheetFault.{SheetFault}
use Rattle.rows.specs.declared.names.Names.{Names}
use Rattle.rows.proofs.names.Names.of.Goals as goal

each_named : (line : List ℕ) (fault : SheetFault) (o : Option Names) → MatchOption o (names_fit line ≡ false) (λ n. (names_fit line ≡ true) × (n.places ≡ places_of line)) → IfOk (ok_or o fault) (λ n. HoldsItsName n.places (fields line))
each_named line fault None h = tt
each_named line fault (Some names) h = rw h.1 (fit_holds line h.0)

pub returns-clause-named : goal.returns-clause-named
returns-clause-named c = rw c.ok_or.ensures.value (each_named c.args.line.now _ c.among.result c.among.ensures)
