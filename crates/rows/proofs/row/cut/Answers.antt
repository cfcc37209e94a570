use Rattle.rows.proofs.Cutting.{no_comma, first_comma}
use Rattle.rows.proofs.row.cut.Goals as goal

pub returns-in_err-comma : goal.returns-in_err-comma
returns-in_err-comma c = rw c.from_residual.ensures (no_comma c.args.line.now c.in_err-comma.ensures)

pub returns : goal.returns
returns c = first_comma c.args.line.now c.in_ok-comma.comma c.in_ok-comma.ensures
