use Rattle.std.proofs.Common.{◌≡◌, get_or, pos, refl, sym, subst, ◌∙◌}
use Rattle.std.proofs.lemmas.List.{drop_more, drop_all}
use Rattle.ledger.specs.declared.call.Call.{Call}
use Rattle.ledger.specs.declared.call.Call.TheVariants.{Trade}
use Rattle.life.proofs.Callings.{accepted, refused, none_left}
use Rattle.life.specs.Lives.{meaning_in, run_of}
use Rattle.life.specs.Runs.{call_run, accepts}
use Rattle.life.proofs.life.Teller.call_all.Goals as goal

pub loop-call-preserved : goal.loop-call-preserved
loop-call-preserved g c =
    let start = c.args.life.now in
    let w = meaning_in start in
    let teller = c.args.self in
    let here = run_of c.loop-call.life in
    let next = run_of c.ask.new.life in
    let none : Call = Trade 0 0 0 (pos 0) (pos 0) in
    let call = get_or c.args.calls.now c.loop-call.call-index none in
    let same = c.loop-call.invariant.1 in
    let called = subst (λ t. next ≡ call_run (g.T.Terms.meaning t) teller.product teller.followed c.args.line call here) same c.in_ok-ask.ensures.run in
    let answered = subst (λ t. c.in_ok-ask.field-0 ≡ accepts (g.T.Terms.meaning t) teller.product teller.followed call here) same (c.in_ok-ask.ensures.accepted call refl) in
    let taken = drop_more c.args.calls.now c.loop-call.call-index none c.loop-call-test.true in
    (accepted w teller.product teller.followed c.args.line c.args.calls.now _ _ call _ here next c.loop-call.invariant.0 taken (sym c.if-not-branch.false ∙ answered) called, c.ask.ensures.terms ∙ same)

pub returns-then-not-branch-clause-run : goal.returns-then-not-branch-clause-run
returns-then-not-branch-clause-run g c =
    let start = c.args.life.now in
    let w = meaning_in start in
    let teller = c.args.self in
    let here = run_of c.loop-call.life in
    let next = run_of c.ask.new.life in
    let none : Call = Trade 0 0 0 (pos 0) (pos 0) in
    let call = get_or c.args.calls.now c.loop-call.call-index none in
    let same = c.loop-call.invariant.1 in
    let called = subst (λ t. next ≡ call_run (g.T.Terms.meaning t) teller.product teller.followed c.args.line call here) same c.in_ok-ask.ensures.run in
    let answered = subst (λ t. c.in_ok-ask.field-0 ≡ accepts (g.T.Terms.meaning t) teller.product teller.followed call here) same (c.in_ok-ask.ensures.accepted call refl) in
    let taken = drop_more c.args.calls.now c.loop-call.call-index none c.loop-call-test.true in
    (refused w teller.product teller.followed c.args.line c.args.calls.now _ _ call _ here next c.loop-call.invariant.0 taken (sym c.if-not-branch.true ∙ answered) called).0

pub returns-then-not-branch-clause-all : goal.returns-then-not-branch-clause-all
returns-then-not-branch-clause-all g c =
    let start = c.args.life.now in
    let w = meaning_in start in
    let teller = c.args.self in
    let here = run_of c.loop-call.life in
    let next = run_of c.ask.new.life in
    let none : Call = Trade 0 0 0 (pos 0) (pos 0) in
    let call = get_or c.args.calls.now c.loop-call.call-index none in
    let same = c.loop-call.invariant.1 in
    let called = subst (λ t. next ≡ call_run (g.T.Terms.meaning t) teller.product teller.followed c.args.line call here) same c.in_ok-ask.ensures.run in
    let answered = subst (λ t. c.in_ok-ask.field-0 ≡ accepts (g.T.Terms.meaning t) teller.product teller.followed call here) same (c.in_ok-ask.ensures.accepted call refl) in
    let taken = drop_more c.args.calls.now c.loop-call.call-index none c.loop-call-test.true in
    (refused w teller.product teller.followed c.args.line c.args.calls.now _ _ call _ here next c.loop-call.invariant.0 taken (sym c.if-not-branch.true ∙ answered) called).1

pub returns-clause-run : goal.returns-clause-run
returns-clause-run g c = (none_left _ _ _ _ _ _ _ _ c.loop-call.invariant.0 (drop_all c.loop-call.call-index c.args.calls.now c.loop-call-test.false)).0

pub returns-clause-all : goal.returns-clause-all
returns-clause-all g c = (none_left _ _ _ _ _ _ _ _ c.loop-call.invariant.0 (drop_all c.loop-call.call-index c.args.calls.now c.loop-call-test.false)).1
