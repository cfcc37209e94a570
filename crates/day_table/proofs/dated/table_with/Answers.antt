use Rattle.std.proofs.Common.{refl, not, ◌&&◌, eqb, false, get_or, ap, ◌∙◌, ℕ}
use Rattle.day_table.proofs.Columns.{told, column, some-class, some-flag, each-class}
use Rattle.day_table.specs.Table.{class_at}
use Rattle.terms.specs.Laws.{names}
use Rattle.terms.specs.Meaning.{any_below, all_below, tradable, has_some_part, successor}
use Rattle.day_table.proofs.dated.table_with.Goals as goal

pub returns : goal.returns
returns g c =
    let w = g.T.Terms.meaning c.args.terms.now in
    let law = g.met.T.Terms.lawful c.args.terms.now in
    let d = c.args.day in
    let ks = c.args.table in
    let e = c.requires.table in
    let n = c.classes-classes.ensures in
    let s = c.settling-settling.ensures in
    let whole = c.wholes-whole.ensures ∙ column w d ks has_some_part e in
    told w d _ refl n s e
    (c.tradables.ensures ∙ column w d ks tradable e)
    c.requires.quantity
    whole
    (c.some_parts.ensures ∙ ap (λ (n : ℕ). any_below n (λ k. get_or c.wholes-whole.result k false)) n ∙ some-flag w law d ks (λ c o. has_some_part o) e c.wholes-whole.result whole)
    (c.all_stay.ensures ∙ ap (λ (n : ℕ). all_below n (λ c. names (successor (class_at ks c)) c)) n ∙ each-class w law d ks (λ c o. names (successor o) c) e)
    (c.taken_over.ensures ∙ (λ i. any_below (n i) (λ c. not (eqb c (s i)) && names (successor (class_at ks c)) (s i))) ∙ some-class w law d ks (λ c o. not (eqb c w.settling) && names (successor o) w.settling) e)
    c.next_of.ensures
