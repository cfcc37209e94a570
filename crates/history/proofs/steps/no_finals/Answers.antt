use Rattle.std.proofs.Common.{None}
use Rattle.history.proofs.Readings.{all_same}
use Rattle.history.proofs.steps.no_finals.Goals as goal

pub returns : goal.returns
returns c = λ m. all_same 1200 None m
