use Rattle.std.proofs.Common.{◌≡◌, ℕ, Bool, true, false, refl, arith, rules}
use Rattle.book.specs.Rows.{row_of}
use Rattle.day_table.specs.Table.{day_in}
use Rattle.ledger.specs.Calls.{lots_fit, after_parts}
use Rattle.std.proofs.lemmas.Iterator.{cases_from_all, YieldsList-from_range, serves_from_Range}
use Rattle.terms.proofs.Ranges.{all-is}
use Rattle.book.proofs.account.Account.keeps_limit.Goals as goal

pub all-requires-clause-callable : goal.all-requires-clause-callable
all-requires-clause-callable c = serves_from_Range (λ x q r. search rules) (λ x l h _ _ _ _ _ _. (omega arith, c.requires))

pub returns : goal.returns
returns c =
    let f : ℕ → Bool = λ k. lots_fit (after_parts (day_in c.args.day.now) (row_of c.args.self.now) k) in
    let n = c.args.day.now.classes in
    all-is f n c.all.result (cases_from_all _ _ _ (λ m. f m ≡ true) (λ m. f m ≡ false) c.all.ensures.ran (YieldsList-from_range 0 n n refl (omega arith)) (λ x q k. search rules) (λ x q k. search rules))
