use Rattle.std.proofs.Common.{◌+◌, vec_items}
use Rattle.std.proofs.lemmas.Result.{err_from_is_err_and}
use Rattle.text.specs.Lines.{lines_from}
use Rattle.holidays.proofs.ReadOn.{goes_on, breaks-off, comes-to-end}
use Rattle.holidays.proofs.file.read_days.Goals as goal

pub returns-in_err-day : goal.returns-in_err-day
returns-in_err-day c =
    let next = c.next_line.new.self in
    let taken = c.in-Some.ensures in
    let p = err_from_is_err_and c.from_residual.result c.from_residual.ensures.1 in
    rw (p.1, p.2) (breaks-off c.args.text.now (vec_items c.loop-line.days) c.loop-line.reader.line (lines_from next.at next.bytes.now) c.loop-line.invariant taken.takes taken.count c.line.ensures c.in_err-day.ensures)

pub loop-line-preserved : goal.loop-line-preserved
loop-line-preserved c =
    let next = c.next_line.new.self in
    let taken = c.in-Some.ensures in
    goes_on (vec_items c.loop-line.days) c.loop-line.reader.line (vec_items c.push.new.self) (lines_from next.at next.bytes.now) c.loop-line.invariant taken.takes taken.count c.line.ensures c.in_ok-day.ensures c.in_ok-push.ensures.items

pub returns : goal.returns
returns c = comes-to-end (vec_items c.loop-line.days) (c.loop-line.reader.line + 1) c.loop-line.invariant c.in_default.ensures.takes.0
