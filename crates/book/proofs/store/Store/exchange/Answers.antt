use Rattle.std.proofs.Common.{ℤ, length, ◌+◌, List, sym, ap, ◌∙◌, subst, to_z, of_z, w32, neg_ℤ}
use Rattle.std.proofs.lemmas.Int.{to_z-of_z}
use Rattle.book.proofs.Trades.{refilled, buyer-room, seller-room}
use Rattle.book.specs.Rows.{rows_of, Room}
use Rattle.book.specs.Stores.{meaning_in, state_in}
use Rattle.book.specs.declared.account.Account.{Account}
use Rattle.ledger.specs.Calls.{row_traded}
use Rattle.ledger.specs.Words.{share}
use Rattle.book.proofs.store.Store.exchange.Goals as goal

pub exchange-requires-clause-bought : goal.exchange-requires-clause-bought
exchange-requires-clause-bought g c =
    let s = c.args.self.now in
    let n = to_z-of_z w32 c.args.lots c.ranges.lots in
    let p = to_z-of_z w32 c.args.price c.ranges.price in
    subst (λ (xs : List Account). Room (rows_of xs c.args.buyer) c.args.class (to_z w32 (of_z w32 c.args.lots)) (to_z w32 (of_z w32 c.args.price))) (sym c.deref_mut.ensures.value)
    (subst (λ (x : ℤ). Room (rows_of s.tables.accounts.items c.args.buyer) c.args.class x (to_z w32 (of_z w32 c.args.price))) (sym n)
    (subst (λ (x : ℤ). Room (rows_of s.tables.accounts.items c.args.buyer) c.args.class c.args.lots x) (sym p)
    (buyer-room (meaning_in s) (state_in s) c.requires.ready.keeps c.args.buyer c.args.seller c.args.class c.args.lots c.args.price c.requires.may)))

pub exchange-requires-clause-sold : goal.exchange-requires-clause-sold
exchange-requires-clause-sold g c =
    let s = c.args.self.now in
    let n = to_z-of_z w32 c.args.lots c.ranges.lots in
    let p = to_z-of_z w32 c.args.price c.ranges.price in
    subst (λ (xs : List Account). Room (rows_of xs c.args.seller) c.args.class (neg_ℤ (to_z w32 (of_z w32 c.args.lots))) (to_z w32 (of_z w32 c.args.price))) (sym c.deref_mut.ensures.value)
    (subst (λ (x : ℤ). Room (rows_of s.tables.accounts.items c.args.seller) c.args.class (neg_ℤ x) (to_z w32 (of_z w32 c.args.price))) (sym n)
    (subst (λ (x : ℤ). Room (rows_of s.tables.accounts.items c.args.seller) c.args.class (neg_ℤ c.args.lots) x) (sym p)
    (seller-room (meaning_in s) (state_in s) c.requires.ready.keeps c.args.buyer c.args.seller c.args.class c.args.lots c.args.price c.requires.may)))

pub returns-clause-after : goal.returns-clause-after
returns-clause-after g c =
    let s = c.args.self.now in
    let b = state_in s in
    let n = to_z-of_z w32 c.args.lots c.ranges.lots in
    let p = to_z-of_z w32 c.args.price c.ranges.price in
    let old = c.deref_mut.ensures.value in
    let e = refilled s.tables.accounts.items c.exchange.new.accounts (c.exchange.ensures.long ∙ ap length old) in
    λ i. record b {
      made = record b.made { accounts = (ap length e ∙ c.exchange.ensures.long ∙ ap length old) i };
      market = record b.market { accepted = b.market.accepted + 1 };
      rows = λ a. (ap (λ (xs : List Account). rows_of xs a) e ∙ c.exchange.ensures.rows a ∙ (λ j. row_traded c.args.class (p j) (share c.args.buyer c.args.seller (n j) a) (rows_of (old j) a))) i;
    }
