use Rattle.std.proofs.Common.{◌≡◌, ap, ◌∙◌, arith, to_z, of_z, w32}
use Rattle.std.proofs.lemmas.Int.{ints}
use Rattle.ledger.specs.Words.{or_zero}
use Rattle.book.proofs.quotes.newest_in_cents.Goals as goal

pub returns-clause-is : goal.returns-clause-is
returns-clause-is c =
    let same : to_z w32 (of_z w32 c.or_zero.result) ≡ c.or_zero.result = omega (arith, ints) in
    same ∙ c.or_zero.ensures.is ∙ ap or_zero (c.newest.ensures 0 0)
