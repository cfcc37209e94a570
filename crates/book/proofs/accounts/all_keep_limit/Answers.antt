use Rattle.std.proofs.Common.{◌≡◌, Bool, true, false, rules}
use Rattle.book.proofs.AccountRows.{all-rows}
use Rattle.book.specs.Rows.{row_of}
use Rattle.day_table.specs.Table.{day_in}
use Rattle.ledger.specs.Calls.{lots_fit, after_parts}
use Rattle.ledger.specs.State.{Row}
use Rattle.ledger.specs.Words.{all_below}
use Rattle.std.proofs.lemmas.Iterator.{cases_from_all, YieldsList-from_slice}
use Rattle.book.proofs.accounts.all_keep_limit.Goals as goal

pub returns : goal.returns
returns c =
    let k = c.args.day.now in
    let f : Row → Bool = λ r. all_below k.classes (λ c. lots_fit (after_parts (day_in k) r c)) in
    all-rows f c.args.accounts.now c.all.result (cases_from_all _ _ _ (λ x. f (row_of x) ≡ true) (λ x. f (row_of x) ≡ false) c.all.ensures.ran (YieldsList-from_slice _ c.iter.ensures.rest) (λ x q k. search rules) (λ x q k. search rules))
