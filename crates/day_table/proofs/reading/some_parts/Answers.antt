use Rattle.std.proofs.Common.{◌≡◌, ℕ, Bool, true, false, get_or, refl, arith, rules}
use Rattle.std.proofs.lemmas.Iterator.{cases_from_any, YieldsList-from_range}
use Rattle.terms.proofs.Ranges.{any-is}
use Rattle.day_table.proofs.reading.some_parts.Goals as goal

pub returns : goal.returns
returns c =
    let f : ℕ → Bool = (λ i. get_or c.args.whole.now i false) in
    any-is f c.args.count c.any.result (cases_from_any _ _ _ (λ m. f m ≡ true) (λ m. f m ≡ false) c.any.ensures.ran (YieldsList-from_range 0 c.args.count c.args.count refl (omega arith)) (λ x q k. search rules) (λ x q k. search rules))
