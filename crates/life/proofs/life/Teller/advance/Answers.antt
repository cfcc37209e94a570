use Rattle.std.proofs.Common.{◌≡◌, sym, subst, ◌∙◌, arith}
use Rattle.life.proofs.Callings.{passed_day, refused_day, days_over}
use Rattle.life.specs.Lives.{meaning_in, run_of}
use Rattle.life.specs.Runs.{day_run, day_passes}
use Rattle.life.proofs.life.Teller.advance.Goals as goal

pub loop-preserved : goal.loop-preserved
loop-preserved g c =
    let start = c.args.life.now in
    let w = meaning_in start in
    let teller = c.args.self in
    let here = run_of c.loop.life in
    let next = run_of c.advance_day.new.life in
    let same = c.loop.invariant.1 in
    let price = c.args.advance.price in
    let days = c.args.advance.days in
    let closed = subst (λ t. next ≡ day_run (g.T.Terms.meaning t) teller.product teller.followed c.args.line price here) same c.in_ok-advance_day.ensures.run in
    let answered = subst (λ t. c.in_ok-advance_day.field-0 ≡ day_passes (g.T.Terms.meaning t) teller.product teller.followed c.args.line price here) same c.in_ok-advance_day.ensures.all in
    (passed_day w teller.product teller.followed c.args.line price c.loop.counter days _ here next (omega (arith, c.loop-test.true)) c.loop.invariant.0 (sym c.if-not-branch.false ∙ answered) closed, c.advance_day.ensures.terms ∙ same)

pub returns-then-not-branch-clause-run : goal.returns-then-not-branch-clause-run
returns-then-not-branch-clause-run g c =
    let start = c.args.life.now in
    let w = meaning_in start in
    let teller = c.args.self in
    let here = run_of c.loop.life in
    let next = run_of c.advance_day.new.life in
    let same = c.loop.invariant.1 in
    let price = c.args.advance.price in
    let days = c.args.advance.days in
    let closed = subst (λ t. next ≡ day_run (g.T.Terms.meaning t) teller.product teller.followed c.args.line price here) same c.in_ok-advance_day.ensures.run in
    let answered = subst (λ t. c.in_ok-advance_day.field-0 ≡ day_passes (g.T.Terms.meaning t) teller.product teller.followed c.args.line price here) same c.in_ok-advance_day.ensures.all in
    refused_day w teller.product teller.followed c.args.line price c.loop.counter days _ here next (omega (arith, c.loop-test.true)) c.loop.invariant.0 (sym c.if-not-branch.true ∙ answered) closed

pub returns-clause-run : goal.returns-clause-run
returns-clause-run g c =
    days_over _ _ _ _ c.args.advance.price c.loop.counter c.args.advance.days _ _ (omega (arith, c.loop-test.false)) c.loop.invariant.0
