use Rattle.std.proofs.Common.{◌≡◌, Some, sym, ◌∙◌, w32}
use Rattle.std.proofs.lemmas.Int.{to_z-of_z}
use Rattle.book.proofs.Afters.{refused, replied-err}
use Rattle.book.specs.Stores.{meaning_in, state_in}
use Rattle.ledger.specs.Calls.{refusal}
use Rattle.ledger.specs.declared.call.Call.TheVariants.{Trade}
use Rattle.book.proofs.store.Store.trade.Goals as goal

pub returns-in_err-may_trade-clause-after : goal.returns-in_err-may_trade-clause-after
returns-in_err-may_trade-clause-after g c =
    let s = c.args.self.now in
    let n = to_z-of_z w32 c.args.lots c.ranges.lots in
    let p = to_z-of_z w32 c.args.price c.ranges.price in
    let e = c.in_err-may_trade.field-0.0 in
    let q : refusal (meaning_in s) (state_in s) (Trade c.args.buyer c.args.seller c.args.class c.args.lots c.args.price) ≡ Some e =
    (λ i. refusal (meaning_in s) (state_in s) (Trade c.args.buyer c.args.seller c.args.class (sym n i) (sym p i))) ∙ replied-err _ tt e (sym c.may_trade.ensures.is ∙ c.in_err-may_trade.was) in
    sym (refused (meaning_in s) (state_in s) (Trade c.args.buyer c.args.seller c.args.class c.args.lots c.args.price) e q)
