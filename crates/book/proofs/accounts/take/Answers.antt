use Rattle.std.proofs.Common.{◌≡◌, ◌<◌, ◌==◌, cond, length, ap, sym, ◌∙◌, arith, to_z, of_z, w32}
use Rattle.std.proofs.lemmas.Int.{ints}
use Rattle.book.proofs.AccountRows.{rows-set, rows-at}
use Rattle.book.specs.Rows.{rows_of}
use Rattle.ledger.specs.Calls.{row_traded}
use Rattle.book.proofs.accounts.take.Goals as goal

pub returns-clause-rows : goal.returns-clause-rows
returns-clause-rows c =
    let xs = c.args.accounts.now in
    let h : c.args.account < length xs = omega arith in
    let n : to_z w32 (of_z w32 c.args.lots) ≡ c.args.lots = omega (arith, ints) in
    let p : to_z w32 (of_z w32 c.args.price) ≡ c.args.price = omega (arith, ints) in
    λ a. rows-set xs c.args.account a c.take.new.self h
    ∙ ap (λ r. cond (a == c.args.account) r (rows_of xs a)) (c.take.ensures ∙ (λ i. row_traded c.args.class (p i) (n i) (sym (rows-at xs c.args.account c.index-accounts-account.result h) i)))
