use Rattle.std.proofs.Common.{◌≡◌, ℤ, true, false, leb, is_some, Option, sym, ap, ◌∙◌, arith, to_z, of_z, w32}
use Rattle.std.proofs.lemmas.Bool.{le-leb}
use Rattle.std.proofs.lemmas.Int.{to_z-of_z}
use Rattle.book.proofs.Afters.{settle-asked}
use Rattle.book.specs.Stores.{meaning_in, state_in}
use Rattle.ledger.specs.Calls.{today, settle_pay, price_fits}
use Rattle.book.proofs.store.Store.may_settle.Goals as goal

pub returns-then-not-may_pay-clause-answer : goal.returns-then-not-may_pay-clause-answer
returns-then-not-may_pay-clause-answer g c =
    let s = c.args.self.now in
    let b = state_in s in
    let p = to_z-of_z w32 c.args.price c.ranges.price in
    let k : is_some (b.market.last (meaning_in s).settling) ≡ true = ap (λ (o : Option ℤ). is_some o) (sym c.settling_price.ensures.is ∙ c.in-Some.is) in
    let f : price_fits c.args.price ≡ true = sym (c.in-Some-new.ensures.fits ∙ ap price_fits p) in
    let l : leb b.made.accounts c.args.room ≡ true = le-leb b.made.accounts c.args.room (omega (arith, c.if-len-room.false, c.len.ensures.value)) in
    settle-asked (meaning_in s) b c.args.price c.args.room false l k f
    (sym (c.may_pay.ensures.is (settle_pay (today (meaning_in s) b) b.market c.args.price)
    (λ a h. c.settle_pays-pays.ensures a h ∙ ap (λ x. settle_pay (today (meaning_in s) b) b.market x (b.rows a)) (ap (λ x. to_z w32 (of_z w32 x)) (c.in-Some-new.ensures.value ∙ p) ∙ p))) ∙ c.if-not-may_pay.true)

pub returns-clause-answer : goal.returns-clause-answer
returns-clause-answer g c =
    let s = c.args.self.now in
    let b = state_in s in
    let p = to_z-of_z w32 c.args.price c.ranges.price in
    let k : is_some (b.market.last (meaning_in s).settling) ≡ true = ap (λ (o : Option ℤ). is_some o) (sym c.settling_price.ensures.is ∙ c.in-Some.is) in
    let f : price_fits c.args.price ≡ true = sym (c.in-Some-new.ensures.fits ∙ ap price_fits p) in
    let l : leb b.made.accounts c.args.room ≡ true = le-leb b.made.accounts c.args.room (omega (arith, c.if-len-room.false, c.len.ensures.value)) in
    settle-asked (meaning_in s) b c.args.price c.args.room true l k f
    (sym (c.may_pay.ensures.is (settle_pay (today (meaning_in s) b) b.market c.args.price)
    (λ a h. c.settle_pays-pays.ensures a h ∙ ap (λ x. settle_pay (today (meaning_in s) b) b.market x (b.rows a)) (ap (λ x. to_z w32 (of_z w32 x)) (c.in-Some-new.ensures.value ∙ p) ∙ p))) ∙ c.if-not-may_pay.false)
