use Rattle.std.proofs.Common.{◌≡◌, ◌<◌, length, ℤ, pos, rules}
use Rattle.amounts.specs.Amounts.{final_payment}
use Rattle.book.specs.Rows.{rows_of}
use Rattle.terms.proofs.Made.{each-made}
use Rattle.book.proofs.accounts.settle_pays.Goals as goal

pub returns : goal.returns
returns c = λ a h l.
    let xs = c.args.accounts.now in
    each-made _ _ (λ i (y : ℤ). i < length xs → y ≡ final_payment c.args.quantity ((rows_of xs i).lots c.args.class) c.args.price c.args.last) (λ i y q k. (search rules, search rules)) c.from_fn.result 32 c.from_fn.ensures.items a (pos 0) l h
