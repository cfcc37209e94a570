use Rattle.std.proofs.Common.{◌≡◌, ◌+◌, length, vec_items}
use Rattle.text.specs.Lines.{lines_from}
use Rattle.holidays.specs.File.{days_from, days_read}
use Rattle.holidays.proofs.ReadOn.{after}
use Rattle.holidays.proofs.file.read_days.Given as goal

abbrev pub invariant-loop-line : goal.invariant-loop-line
invariant-loop-line l = after (vec_items l.days) (days_from (l.reader.line + 1) (lines_from l.reader.at l.reader.bytes.now)) ≡ days_read l.text

abbrev pub decreases-loop-line : goal.decreases-loop-line
decreases-loop-line l = length (lines_from l.reader.at l.reader.bytes.now)
