use Rattle.std.proofs.Common.{◌≡◌, ℕ, Bool, true, false, cond, is_some, refl, ap, ◌∙◌, arith, rules}
use Rattle.book.specs.Stores.{state_in}
use Rattle.day_table.specs.Table.{day_in}
use Rattle.ledger.specs.Words.{all_below}
use Rattle.std.proofs.lemmas.Iterator.{cases_from_all, YieldsList-from_range}
use Rattle.terms.proofs.Ranges.{all-is}
use Rattle.terms.specs.Day.{Day}
use Rattle.book.proofs.store.Store.all_priced.Goals as goal

pub returns : goal.returns
returns g c =
    let b = state_in c.args.self.now in
    let t = c.day-day.result.now in
    let f : ℕ → Bool = λ k. cond ((day_in t).tradable k) (is_some (b.market.today k)) true in
    let n = t.classes in
    all-is f n c.all.result (cases_from_all _ _ _ (λ m. f m ≡ true) (λ m. f m ≡ false) c.all.ensures.ran (YieldsList-from_range 0 n n refl (omega arith)) (λ x q k. search rules) (λ x q k. search rules))
    ∙ ap (λ (d : Day). all_below d.classes (λ k. cond (d.tradable k) (is_some (b.market.today k)) true)) c.day-day.ensures.day
