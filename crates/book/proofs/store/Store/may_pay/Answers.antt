use Rattle.std.proofs.Common.{◌+ℤ◌, List, length, ap, ◌∙◌, sym}
use Rattle.book.proofs.Settles.{cash-same, cash-small}
use Rattle.book.specs.Rows.{rows_of}
use Rattle.book.specs.Stores.{state_in}
use Rattle.book.specs.declared.account.Account.{Account}
use Rattle.ledger.specs.Calls.{cash_fits}
use Rattle.ledger.specs.Words.{all_below, at}
use Rattle.book.proofs.store.Store.may_pay.Goals as goal

pub returns-clause-is : goal.returns-clause-is
returns-clause-is g c = λ f is.
    let b = state_in c.args.self.now in
    c.may_pay.ensures
    ∙ ap (λ (xs : List Account). all_below (length xs) (λ a. cash_fits ((rows_of xs a).cash +ℤ at c.args.pays.now a))) c.deref.ensures.0
    ∙ cash-same b.made.accounts b.rows (at c.args.pays.now) f is

pub returns-clause-fits : goal.returns-clause-fits
returns-clause-fits g c = λ e.
    cash-small c.args.self.now.tables.accounts.items c.args.pays.now
    (sym (ap (λ (xs : List Account). all_below (length xs) (λ a. cash_fits ((rows_of xs a).cash +ℤ at c.args.pays.now a))) c.deref.ensures.0) ∙ sym c.may_pay.ensures ∙ e)
