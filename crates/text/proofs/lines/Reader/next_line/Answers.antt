use Rattle.std.proofs.Common.{refl, ap, arith}
use Rattle.std.proofs.lemmas.List.{drop_all}
use Rattle.text.specs.Lines.{lines}
use Rattle.text.proofs.FirstLine.{next-line}
use Rattle.text.proofs.lines.Reader.next_line.Goals as goal

pub returns-then-start-bytes : goal.returns-then-start-bytes
unfolding lines
returns-then-start-bytes c =
    let none = ap lines (drop_all c.args.self.now.at c.args.self.now.bytes.now c.if-start-bytes.true) in
    record { same = refl; takes = (none, none); count = omega arith }

pub returns-clause-takes : goal.returns-clause-takes
returns-clause-takes c =
    let reader = c.args.self.now in
    let next = c.pass.new.self in
    next-line reader.bytes.now next.bytes.now reader.at c.find-end.result next.at c.if-start-bytes.false c.find-end.ensures c.pass.ensures.same c.pass.ensures.place
