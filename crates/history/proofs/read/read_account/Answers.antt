use Rattle.std.proofs.Common.{List, [], ◌∷◌, reverse, take, get_or, pos, None, ap, ◌∙◌, subst, sym, arith}
use Rattle.history.specs.Told.{Told}
use Rattle.ledger.specs.declared.call.Call.TheVariants.{Trade}
use Rattle.ledger.specs.declared.entry.Entry.{Entry}
use Rattle.std.proofs.lemmas.List.{length-reverse, length-take, reverse-append, take_all, take_more}
use Rattle.history.proofs.read.read_account.Goals as goal

pub loop-entry-init : goal.loop-entry-init
loop-entry-init g c = c.start-reading.ensures.told c.args.account

pub loop-entry-preserved : goal.loop-entry-preserved
loop-entry-preserved g c =
    let i = c.loop-entry.entry-index in
    let es = c.args.entries.now in
    let none : Entry = record { call = Trade 0 0 0 (pos 0) (pos 0); answer = None } in
    let more = ap reverse (take_more es i none c.loop-entry-test.true) ∙ reverse-append (take i es) (get_or es i none ∷ []) in
    subst (λ (h : List Entry). Told (g.T.Terms.meaning c.args.terms.now) c.args.month h c.args.account c.read.new.self) (sym more) (c.read.ensures.told c.args.month (reverse (take i es)) c.loop-entry.invariant)

pub read-requires : goal.read-requires
read-requires g c =
    let i = c.loop-entry.entry-index in
    omega (arith, c.loop-entry.invariant.calls, length-reverse (take i c.args.entries.now), length-take i c.args.entries.now, c.loop-entry-test.true, c.if-entries-gt-MOST_CALLS.false)

pub returns-clause-told : goal.returns-clause-told
returns-clause-told g c =
    subst (λ (l : List Entry). Told (g.T.Terms.meaning c.args.terms.now) c.args.month (reverse l) c.args.account c.loop-entry.reading) (take_all c.loop-entry.entry-index c.args.entries.now c.loop-entry-test.false) c.loop-entry.invariant
