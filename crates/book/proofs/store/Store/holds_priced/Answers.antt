use Rattle.std.proofs.Common.{◌≡◌, ℕ, Bool, true, false, cond, eqb, nat_abs, is_some, refl, ap, ◌∙◌, arith, rules}
use Rattle.book.specs.Stores.{state_in}
use Rattle.ledger.specs.Words.{all_below}
use Rattle.std.proofs.lemmas.Iterator.{cases_from_all, YieldsList-from_range}
use Rattle.terms.proofs.Ranges.{all-is}
use Rattle.terms.specs.Day.{Day}
use Rattle.book.proofs.store.Store.holds_priced.Goals as goal

pub returns : goal.returns
returns g c =
    let s = state_in c.args.self.now in
    let n = c.day.result.now.classes in
    let f : ℕ → Bool = λ k. cond (eqb (nat_abs ((s.rows c.args.account).lots k)) 0) true (is_some (s.market.last k)) in
    all-is f n c.all.result (cases_from_all _ _ _ (λ m. f m ≡ true) (λ m. f m ≡ false) c.all.ensures.ran (YieldsList-from_range 0 n n refl (omega arith)) (λ x q k. search rules) (λ x q k. search rules))
    ∙ ap (λ (d : Day). all_below d.classes f) c.day.ensures.day
