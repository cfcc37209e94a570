use Rattle.std.proofs.Common.{◌≡◌, ap, sym, ◌∙◌, arith, to_z, of_z, w32, w64}
use Rattle.std.proofs.lemmas.Int.{ints}
use Rattle.amounts.specs.Amounts.{final_payment}
use Rattle.book.proofs.AccountRows.{rows-at}
use Rattle.book.specs.Rows.{row_of, rows_of}
use Rattle.book.proofs.accounts.settle_pay_at.Goals as goal

pub returns-in-Some : goal.returns-in-Some
returns-in-Some c = λ h.
    let new : to_z w32 (of_z w32 c.args.price) ≡ c.args.price = omega (arith, ints) in
    let last : to_z w32 (of_z w32 c.args.last) ≡ c.args.last = omega (arith, ints) in
    let pay : to_z w64 (of_z w64 c.settle_pay.result) ≡ c.settle_pay.result = omega (arith, ints) in
    let row : row_of c.in-Some.here.now ≡ rows_of c.args.accounts.now c.args.account = ap row_of c.in-Some.ensures.lookup.1 ∙ sym (rows-at c.args.accounts.now c.args.account _ h) in
    pay ∙ c.settle_pay.ensures.is ∙ (λ i. final_payment c.args.quantity ((row i).lots c.args.class) (new i) (last i))
