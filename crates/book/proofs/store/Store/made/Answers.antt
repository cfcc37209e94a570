use Rattle.std.proofs.Common.{replicate, refl, ap, ◌∙◌}
use Rattle.book.proofs.Fresh.{few-lines, new-tables, unpriced}
use Rattle.book.specs.declared.tables.Tables.{Tables}
use Rattle.day_table.specs.Table.{table_of}
use Rattle.ledger.specs.Make.{made_of}
use Rattle.book.proofs.store.Store.made.Goals as goal

pub filled-requires : goal.filled-requires
filled-requires g c =
    few-lines (g.T.Terms.meaning c.args.terms) (g.met.T.Terms.lawful c.args.terms) (made_of c.args.month c.args.accounts c.args.lines.now) c.requires

pub returns-clause-state : goal.returns-clause-state
returns-clause-state g c =
    let w = g.T.Terms.meaning c.args.terms in
    let t : Tables = record { month = c.args.month; accepted = 0; accounts = c.empty_accounts.result; prices = replicate 12 unpriced; lines = c.filled.result } in
    let r = c.empty_accounts.ensures in
    new-tables w (g.met.T.Terms.lawful c.args.terms) (made_of c.args.month c.args.accounts c.args.lines.now) c.requires c.new.result.table t (c.new.ensures.table ∙ ap (table_of w) c.start_day-day.ensures) refl refl r.long r.rows refl c.filled.ensures
