use Rattle.std.proofs.Common.{take}
use Rattle.book.proofs.ClassLines.{lines-rise, interval-is, not-missed}
use Rattle.book.proofs.margins.interval.Goals as goal

pub returns-in-Some : goal.returns-in-Some
returns-in-Some c =
    let n = c.args.classes in
    let xs = take n c.args.lines.now in
    let fit = c.requires.lines in
    interval-is xs n fit c.args.class c.requires.known.1 _ (c.find.ensures.rising (lines-rise xs n fit)) c.in-Some.place c.in-Some.is

pub returns-in-None : goal.returns-in-None
returns-in-None c =
    let n = c.args.classes in
    let xs = take n c.args.lines.now in
    let fit = c.requires.lines in
    absurd (not-missed xs n fit c.args.class c.requires.known.1 _ (c.find.ensures.rising (lines-rise xs n fit)) c.in-None.is)
