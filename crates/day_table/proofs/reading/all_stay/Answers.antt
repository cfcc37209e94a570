use Rattle.std.proofs.Common.{◌≡◌, ℕ, Bool, true, false, refl, arith, rules}
use Rattle.day_table.specs.Table.{class_at}
use Rattle.std.proofs.lemmas.Iterator.{cases_from_all, YieldsList-from_range}
use Rattle.terms.proofs.Ranges.{all-is}
use Rattle.terms.specs.Laws.{names}
use Rattle.terms.specs.Meaning.{successor}
use Rattle.day_table.proofs.reading.all_stay.Goals as goal

pub returns : goal.returns
returns c =
    let f : ℕ → Bool = (λ i. names (successor (class_at c.args.classes.now i)) i) in
    all-is f c.args.count c.all.result (cases_from_all _ _ _ (λ m. f m ≡ true) (λ m. f m ≡ false) c.all.ensures.ran (YieldsList-from_range 0 c.args.count c.args.count refl (omega arith)) (λ x q k. search rules) (λ x q k. search rules))
