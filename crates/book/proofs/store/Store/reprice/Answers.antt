use Rattle.std.proofs.Common.{◌≡◌, ℕ, ℤ, true, Some, sym, ap, ◌∙◌, w32, arith}
use Rattle.std.proofs.lemmas.Int.{to_z-of_z}
use Rattle.book.proofs.Afters.{accepted, reprice-accepted}
use Rattle.book.specs.Stores.{meaning_in, state_in}
use Rattle.ledger.specs.Calls.{price_fits}
use Rattle.ledger.specs.State.{Market}
use Rattle.ledger.specs.Words.{put}
use Rattle.ledger.specs.declared.call.Call.TheVariants.{Reprice}
use Rattle.book.proofs.store.Store.reprice.Goals as goal

-- the same class is repriced at the same price
same : (m : Market) (k c : ℕ) (x y : ℤ) → k ≡ c → x ≡ y → record m { repriced = put m.repriced k (Some x) } ≡ record m { repriced = put m.repriced c (Some y) }
same m k c x y e v = λ i. record m { repriced = put m.repriced (e i) (Some (v i)) }

pub returns-clause-after : goal.returns-clause-after
returns-clause-after g c =
    let s = c.args.self.now in
    let b = state_in s in
    let p = to_z-of_z w32 c.args.price c.ranges.price in
    let f : price_fits c.args.price ≡ true = sym (c.in-Some.ensures.fits ∙ ap price_fits p) in
    let v : c.in-Some.repriced.cents ≡ c.args.price = c.in-Some.ensures.value ∙ p in
    (λ i. record b { market = (c.reprice.ensures b.market.day b.market.accepted ∙ same b.market _ c.args.class _ _ (omega arith) v) i })
    ∙ sym (accepted (meaning_in s) b (Reprice c.args.class c.args.price) (reprice-accepted (meaning_in s) b c.args.class c.args.price (sym c.if-not-is_repriceable.ensures.is) f))
