use Rattle.std.proofs.Common.{◌≡◌, ℕ, ◌<◌, List, None, length, ap, ◌∙◌, arith}
use Rattle.book.proofs.Settles.{settled-rows}
use Rattle.book.proofs.Trades.{refilled}
use Rattle.book.specs.Rows.{rows_of, row_paid}
use Rattle.book.specs.Stores.{meaning_in, state_in}
use Rattle.book.specs.declared.account.Account.{Account}
use Rattle.ledger.specs.Words.{at, put}
use Rattle.book.proofs.store.Store.pay_out.Goals as goal

pub returns-clause-state : goal.returns-clause-state
returns-clause-state g c = λ f room is.
    let s = c.args.self.now in
    let b = state_in s in
    let xs = s.tables.accounts.items in
    let old = c.deref_mut.ensures.value in
    let class = c.settling-class.result in
    let long = c.settle_all.ensures.long ∙ ap length old in
    let e = refilled xs c.settle_all.new.accounts long in
    let rows : (a : ℕ) → a < length xs → rows_of c.settle_all.new.accounts a ≡ row_paid class (at c.args.pays.now a) (rows_of xs a) =
    λ a l. c.settle_all.ensures.rows a (omega (arith, l, ap length old)) ∙ ap (λ (xs : List Account). row_paid class (at c.args.pays.now a) (rows_of xs a)) old in
    let market = c.settle.ensures b.market.day b.market.accepted in
    λ i. record b {
      made = record b.made { accounts = (ap length e ∙ long) i };
      market = (market ∙ (λ j. record b.market { last = put b.market.last (c.settling-class.ensures.is j) None; repriced = put b.market.repriced (c.settling-class.ensures.is j) None })) i;
      rows = λ a. (ap (λ (xs : List Account). rows_of xs a) e ∙ settled-rows (meaning_in s) b.market f class xs c.settle_all.new.accounts c.args.pays.now c.settling-class.ensures.is long rows is a) i;
    }
