use Rattle.std.proofs.Common.{◌≡◌, ◌<◌, length, ℤ, pos, ◌+ℤ◌, rules}
use Rattle.book.specs.Rows.{rows_of, parts_pay_at}
use Rattle.day_table.specs.Table.{day_in}
use Rattle.ledger.specs.Words.{at}
use Rattle.terms.proofs.Made.{each-made}
use Rattle.book.proofs.accounts.pays_with_parts.Goals as goal

pub returns : goal.returns
returns c = λ a h l.
    let xs = c.args.accounts.now in
    each-made _ _ (λ i (y : ℤ). i < length xs → y ≡ at c.args.pays.now i +ℤ parts_pay_at (day_in c.args.day.now) (at c.args.newest.now) (rows_of xs i)) (λ i y q k. (search rules, search rules)) c.from_fn.result 32 c.from_fn.ensures.items a (pos 0) l h
