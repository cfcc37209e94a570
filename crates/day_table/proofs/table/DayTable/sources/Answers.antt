use Rattle.std.proofs.Common.{arith}
use Rattle.day_table.proofs.Columns.{sources-end}
use Rattle.day_table.proofs.table.DayTable.sources.Goals as goal

pub returns : goal.returns
returns c =
    sources-end c.args.self.now c.loop-class.sources c.loop-class.class (omega arith) (omega arith) c.loop-class.invariant.0 c.loop-class.invariant.1
