use Rattle.std.proofs.Common.{◌≡◌, true, false, ◌∙◌, arith, rules}
use Rattle.book.proofs.ClassLines.{not-as-many, lines-asked}
use Rattle.book.specs.Lines.{line_fits}
use Rattle.std.proofs.lemmas.Bool.{ne_eqb}
use Rattle.std.proofs.lemmas.Iterator.{cases_from_all, YieldsList-from_range, YieldsList-from_slice, YieldsList-from_zip}
use Rattle.book.proofs.make.lines_fit.Goals as goal

pub returns-then-lines-classes-clause-is : goal.returns-then-lines-classes-clause-is
returns-then-lines-classes-clause-is c =
    let n = c.args.classes in
    lines-asked n c.args.lines.now c.all.result c.if-lines-classes.true (cases_from_all c.all.new.self _ _ (λ p. line_fits p.0 p.1 ≡ true) (λ p. line_fits p.0 p.1 ≡ false) c.all.ensures.ran (YieldsList-from_zip (YieldsList-from_slice _ (search rules)) (YieldsList-from_range 0 n n (search rules) (omega arith))) (λ x q k. search rules) (λ x q k. search rules))

pub returns-else-lines-classes-clause-is : goal.returns-else-lines-classes-clause-is
returns-else-lines-classes-clause-is c = ne_eqb _ _ c.if-lines-classes.false ∙ not-as-many _ _ c.if-lines-classes.false
