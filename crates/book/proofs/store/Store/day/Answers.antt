use Rattle.std.proofs.Common.{◌≤◌, sym, ap, ◌∙◌, subst}
use Rattle.book.proofs.Days.{tells, twelve, flagged, small}
use Rattle.book.specs.Rows.{Flagged, SmallDay}
use Rattle.day_table.specs.Table.{day_in}
use Rattle.day_table.specs.declared.table.DayTable.{DayTable}
use Rattle.book.proofs.store.Store.day.Goals as goal

pub returns-clause-day : goal.returns-clause-day
returns-clause-day g c =
    let d = c.args.self.now.dated in
    ap day_in c.table.ensures ∙ tells (g.T.Terms.meaning d.terms) (g.met.T.Terms.lawful d.terms) d.table d.read

pub returns-clause-twelve : goal.returns-clause-twelve
returns-clause-twelve g c =
    let d = c.args.self.now.dated in
    subst (λ (t : DayTable). t.classes ≤ 12) (sym c.table.ensures) (twelve (g.T.Terms.meaning d.terms) (g.met.T.Terms.lawful d.terms) d.table d.read)

pub returns-clause-flagged : goal.returns-clause-flagged
returns-clause-flagged g c =
    let d = c.args.self.now.dated in
    subst Flagged (sym c.table.ensures) (flagged (g.T.Terms.meaning d.terms) (g.met.T.Terms.lawful d.terms) d.table d.read)

pub returns-clause-small : goal.returns-clause-small
returns-clause-small g c =
    let d = c.args.self.now.dated in
    subst SmallDay (sym c.table.ensures) (small (g.T.Terms.meaning d.terms) (g.met.T.Terms.lawful d.terms) d.table d.read)

pub returns-clause-read : goal.returns-clause-read
returns-clause-read g c = c.table.ensures ∙ c.args.self.now.dated.read
