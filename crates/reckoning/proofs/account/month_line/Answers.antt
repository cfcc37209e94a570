use Rattle.std.proofs.Common.{◌∙◌}
use mir.Syntax.{w64}
use Rattle.std.proofs.lemmas.Int.{to_z-of_z}
use Rattle.reckoning.proofs.account.month_line.Goals as goal

pub returns-clause-bought : goal.returns-clause-bought
returns-clause-bought g c =
    to_z-of_z w64 _ (record { sfits = c.net.type_inv }) ∙ (c.net.ensures ∙ c.requires.states.told.nets c.args.month c.requires.known.1)
