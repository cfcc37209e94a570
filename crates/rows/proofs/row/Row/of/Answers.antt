use Rattle.std.proofs.Common.{arith}
use Rattle.rows.proofs.Cutting.{some_field}
use Rattle.rows.proofs.row.Row.of.Goals as goal

pub returns-in-Some : goal.returns-in-Some
returns-in-Some c =
    let more = some_field c.in-Some.field-0.1.now in
    rw (c.in_ok-first.ensures, c.in_ok-second.ensures, c.in_ok-third.ensures, c.in_ok-fourth.ensures, c.in_ok-fifth.ensures, c.in-Some.ensures) (λ six. omega arith)
