use Rattle.std.proofs.Common.{Bool, List, length, sym, ap, ◌∙◌}
use Rattle.book.proofs.Closes.{all-keep}
use Rattle.book.specs.Rows.{rows_of}
use Rattle.book.specs.declared.account.Account.{Account}
use Rattle.day_table.specs.Table.{day_in}
use Rattle.ledger.specs.Calls.{lots_fit, after_parts}
use Rattle.ledger.specs.Words.{all_below}
use Rattle.terms.specs.Day.{Day}
use Rattle.book.proofs.store.Store.keeps_limit.Goals as goal

abbrev keep : List Account → Day → Bool
keep xs d = all_below (length xs) (λ a. all_below d.classes (λ c. lots_fit (after_parts d (rows_of xs a) c)))

pub returns-then-not-day : goal.returns-then-not-day
returns-then-not-day g c =
    let xs = c.args.self.now.tables.accounts.items in
    sym (all-keep c.day-day.result.now xs c.day-day.ensures.flagged c.if-not-day.true) ∙ ap (keep xs) c.day-day.ensures.day

pub returns : goal.returns
returns g c =
    c.all_keep_limit.ensures ∙ ap (λ (xs : List Account). keep xs (day_in c.day-day.result.now)) c.deref.ensures.0
    ∙ ap (keep c.args.self.now.tables.accounts.items) c.day-day.ensures.day
