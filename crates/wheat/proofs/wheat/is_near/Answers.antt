use Rattle.std.proofs.Common.{◌≡◌, ◌+◌, ◌<◌, ◌≤◌, cond, sym, ⊎_elim, arith, rules, tests}
use Rattle.std.proofs.lemmas.Bool.{cases_lt, le-leb, lt-leb}
use Rattle.calendars.specs.Counts.{before-next, before-rises}
use Rattle.calendars.specs.Sets.{before, between}
use Rattle.wheat.proofs.wheat.is_near.Goals as goal

pub loop-later-init : goal.loop-later-init
loop-later-init g c = (omega arith, omega arith)

pub overflow_add-found : goal.overflow_add-found
overflow_add-found g c =
    let one : c.from-found.result ≤ 1 = search (rules, tests) in omega (arith, c.loop-later.invariant.1)

pub returns-then-found-gt-NEAR : goal.returns-then-found-gt-NEAR
returns-then-found-gt-NEAR g c =
    let f = g.C.Calendar.opens c.args.calendar.now in
    let k = c.loop-later.later in
    let one : c.from-found.result ≡ cond (f k) 1 0 = search (rules, tests) in
    let next = before-next f k in
    let rest = before-rises f (k + 1) (c.args.last + 1) (omega (arith, c.loop-later-test.true)) in
    sym (lt-leb (between f (c.args.day + 1) (c.args.last + 1)) 6 (omega (arith, one, next, rest, c.loop-later.invariant, c.if-found-gt-NEAR.true)))

pub loop-later-preserved : goal.loop-later-preserved
loop-later-preserved g c =
    let f = g.C.Calendar.opens c.args.calendar.now in
    let k = c.loop-later.later in
    let one : c.from-found.result ≡ cond (f k) 1 0 = search (rules, tests) in
    (omega (arith, one, before-next f k, c.loop-later.invariant), omega (arith, c.if-found-gt-NEAR.false))

pub returns : goal.returns
returns g c =
    let f = g.C.Calendar.opens c.args.calendar.now in
    let a = c.args.day + 1 in
    let b = c.args.last + 1 in
    sym (le-leb (between f a b) 6
    (⊎_elim (λ (h : b < a). omega (arith, before-rises f b a (omega arith)))
    (λ (h : a ≤ b).
    let e : c.loop-later.later ≡ b = omega (arith, c.loop-later.auto.later-end h, c.loop-later-test.false) in
    let is : before f b ≡ before f a + c.loop-later.found = rw e at (c.loop-later.invariant.0) in
    omega (arith, is, c.loop-later.invariant.1))
    (cases_lt b a)))
