use Rattle.std.proofs.Common.{◌≡◌, ◌+◌, ap, subst, ◌∙◌}
use Rattle.life.proofs.Lines.{one_line, lines_over}
use Rattle.life.specs.Lives.{meaning_in, run_of}
use Rattle.life.specs.Runs.{line_run}
use Rattle.rows.specs.Headings.{places_in}
use Rattle.text.specs.Readers.{lines_left, lines_read}
use Rattle.life.proofs.life.Teller.rows.Goals as goal

pub loop-line-preserved : goal.loop-line-preserved
loop-line-preserved g c =
    let start = c.args.life.now in
    let w = meaning_in start in
    let teller = c.args.self in
    let here = run_of c.loop-line.life in
    let next = run_of c.line-in-Some.new.life in
    let same = c.loop-line.invariant.1 in
    let taken = c.in-Some.ensures in
    let number = c.line.ensures ∙ taken.count in
    let at_now = subst (λ t. next ≡ line_run (g.T.Terms.meaning t) teller.product teller.followed (places_in c.args.head.names) c.line.result c.in-Some.line.now here) same c.in_ok-line.ensures.run in
    let told = at_now ∙ ap (λ n. line_run w teller.product teller.followed (places_in c.args.head.names) n c.in-Some.line.now here) number in
    (one_line w teller.product teller.followed (places_in c.args.head.names) (lines_read c.args.head.rows + 1) (lines_read c.loop-line.rows + 1) (lines_read c.next_line.new.self + 1) (lines_left c.args.head.rows) (lines_left c.loop-line.rows) (lines_left c.next_line.new.self) c.in-Some.line.now _ here next c.loop-line.invariant.0 taken.takes (ap (λ n. n + 1) taken.count) told, c.line-in-Some.ensures.terms ∙ same)

pub returns-clause-run : goal.returns-clause-run
returns-clause-run g c = lines_over _ _ _ _ _ _ _ _ _ _ c.loop-line.invariant.0 c.in_default.ensures.takes.0
