use Rattle.std.proofs.Common.{◌≡◌, ℕ, Bool, true, false, length, ◌+ℤ◌, refl, arith, rules}
use Rattle.book.specs.Rows.{rows_of}
use Rattle.ledger.specs.Calls.{cash_fits}
use Rattle.ledger.specs.Words.{at}
use Rattle.std.proofs.lemmas.Iterator.{cases_from_all, YieldsList-from_range}
use Rattle.terms.proofs.Ranges.{all-is}
use Rattle.book.proofs.accounts.may_pay.Goals as goal

pub returns : goal.returns
returns c =
    let xs = c.args.accounts.now in
    let f : ℕ → Bool = λ a. cash_fits ((rows_of xs a).cash +ℤ at c.args.pays.now a) in
    all-is f (length xs) c.all.result (cases_from_all _ _ _ (λ m. f m ≡ true) (λ m. f m ≡ false) c.all.ensures.ran (YieldsList-from_range 0 (length xs) (length xs) refl (omega arith)) (λ x q k. search rules) (λ x q k. search rules))
