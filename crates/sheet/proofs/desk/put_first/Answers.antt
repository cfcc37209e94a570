use Rattle.std.proofs.Common.{arith}
use Rattle.sheet.proofs.Replying.{first_set}
use Rattle.sheet.proofs.desk.put_first.Goals as goal

pub returns : goal.returns
returns c = first_set c.args.list.now c.args.payment (omega (arith, c.told-list))
