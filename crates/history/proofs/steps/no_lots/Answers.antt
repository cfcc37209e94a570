use Rattle.std.proofs.Common.{pos}
use Rattle.history.proofs.Readings.{all_same}
use Rattle.history.proofs.steps.no_lots.Goals as goal

pub returns : goal.returns
returns c = λ m. all_same 1200 (pos 0) m
