use Rattle.std.proofs.Common.{◌≡◌, ℕ, ◌<◌, ◌≤◌, length, ℤ, pos, nat_abs, rules, arith}
use Rattle.amounts.specs.SumsOfWhole.{sum_z}
use Rattle.book.proofs.Loops.{each-place}
use Rattle.book.specs.Quotes.{quote_at, quote_pay}
use Rattle.book.specs.Rows.{rows_of}
use Rattle.terms.proofs.Made.{each-made}
use Rattle.book.proofs.accounts.variation_pays.Goals as goal

pub returns-clause-is : goal.returns-clause-is
returns-clause-is c = λ a h l.
    let xs = c.args.accounts.now in
    each-made _ _ (λ i (y : ℤ). i < length xs → y ≡ sum_z c.args.classes (λ k. quote_pay (quote_at c.args.quotes.now k) (rows_of xs i) k)) (λ i y q k. (search rules, search rules)) c.from_fn.result 32 c.from_fn.ensures.items a (pos 0) l h

pub returns-clause-bound : goal.returns-clause-bound
returns-clause-bound c =
    let Small : ℕ → ℤ → Type 0 = λ i y. nat_abs y ≤ 2145632184000000000 in
    each-place Small c.from_fn.result 32 (pos 0) c.from_fn.ensures.items.long (λ k l. omega arith) (λ k l. each-made _ _ Small (λ i y q k. (search rules, search rules)) c.from_fn.result 32 c.from_fn.ensures.items k (pos 0) l)
