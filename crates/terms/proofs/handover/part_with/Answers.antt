use Rattle.std.proofs.Common.{rules, ◌≡◌, ℕ, Bool, true, false, ◌&&◌, Some}
use Rattle.std.proofs.lemmas.Iterator.{first_from_Range}
use Rattle.calendars.proofs.Firsts.{first_told}
use Rattle.terms.specs.Meaning.{has, is_part}
use Rattle.terms.proofs.handover.part_with.Goals as goal

pub returns : goal.returns
returns g c =
    let w = g.T.Terms.meaning c.args.terms.now in
    let f : ℕ → Bool = λ p. is_part (Some c.args.class.now) p && has (w.on c.args.day p) c.args.month in
    (first_told f 0 12 _ (first_from_Range _ _ _ _ (λ x. f x ≡ true) (λ x. f x ≡ false) c.find.ensures.ran (λ x q k. search rules) (λ x q k. search rules))).is
