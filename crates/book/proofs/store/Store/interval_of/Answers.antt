use Rattle.std.proofs.Common.{◌<◌, take, Some, None, sym, ap, ◌∙◌, subst}
use Rattle.book.proofs.Days.{class-read}
use Rattle.book.specs.Stores.{state_in}
use Rattle.day_table.specs.declared.table.DayTable.{DayTable}
use Rattle.ledger.specs.Questions.{interval_of}
use Rattle.terms.specs.Day.{Day}
use Rattle.book.proofs.store.Store.interval_of.Goals as goal

pub interval-requires-clause-known : goal.interval-requires-clause-known
interval-requires-clause-known g c =
    let d = c.args.self.now.dated in
    let w = g.T.Terms.meaning d.terms in
    let law = g.met.T.Terms.lawful d.terms in
    let here = class-read w law d.table d.read c.day-day.result.now c.day-day.ensures.table c.args.class (Some c.in-Some.here) c.requires.known c.in-Some.is in
    (c.day-day.ensures.twelve, subst (λ (t : Day). c.in-Some.here.interval_class < t.classes) (sym c.day-day.ensures.day) (law.ranges d.table.day c.args.class c.in-Some.here here).interval)

pub returns-in-Some : goal.returns-in-Some
returns-in-Some g c =
    let s = c.args.self.now in
    let d = s.dated in
    let here = class-read (g.T.Terms.meaning d.terms) (g.met.T.Terms.lawful d.terms) d.table d.read c.day-day.result.now c.day-day.ensures.table c.args.class (Some c.in-Some.here) c.requires.known c.in-Some.is in
    let n = ap (λ (t : DayTable). t.classes) c.day-day.ensures.table in
    c.interval.ensures ∙ (λ i. interval_of (take (n i) s.tables.lines) (sym here i))

pub returns-in-None : goal.returns-in-None
returns-in-None g c =
    let s = c.args.self.now in
    let d = s.dated in
    let here = class-read (g.T.Terms.meaning d.terms) (g.met.T.Terms.lawful d.terms) d.table d.read c.day-day.result.now c.day-day.ensures.table c.args.class None c.requires.known c.in-None.is in
    ap (interval_of (state_in s).made.lines) (sym here)
