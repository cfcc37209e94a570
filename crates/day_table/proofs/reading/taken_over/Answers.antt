use Rattle.std.proofs.Common.{◌≡◌, ℕ, Bool, true, false, not, ◌&&◌, eqb, refl, arith, rules}
use Rattle.day_table.specs.Table.{class_at}
use Rattle.std.proofs.lemmas.Iterator.{cases_from_any, YieldsList-from_range}
use Rattle.terms.proofs.Ranges.{any-is}
use Rattle.terms.specs.Laws.{names}
use Rattle.terms.specs.Meaning.{successor}
use Rattle.day_table.proofs.reading.taken_over.Goals as goal

pub returns : goal.returns
returns c =
    let f : ℕ → Bool = (λ i. not (eqb i c.args.settling) && names (successor (class_at c.args.classes.now i)) c.args.settling) in
    any-is f c.args.count c.any.result (cases_from_any _ _ _ (λ m. f m ≡ true) (λ m. f m ≡ false) c.any.ensures.ran (YieldsList-from_range 0 c.args.count c.args.count refl (omega arith)) (λ x q k. search rules) (λ x q k. search rules))
