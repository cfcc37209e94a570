use Rattle.std.proofs.Common.{◌≡◌, get_or, List, sym, ap, ◌∙◌, w32, to_z, of_z, arith}
use mir.Syntax.{w128}
use Rattle.book.specs.Markets.{cents_in, prices_at}
use Rattle.book.specs.Rows.{row_of}
use Rattle.book.specs.Stores.{state_in}
use Rattle.book.specs.declared.account.Account.{Account}
use Rattle.ledger.specs.Questions.{margin_of}
use Rattle.ledger.specs.State.{Row, nil_row}
use Rattle.std.proofs.lemmas.Int.{to_z-of_z}
use Rattle.std.proofs.lemmas.List.{get_or-map, get_or_default}
use Rattle.terms.specs.Day.{Day}
use Rattle.book.proofs.store.Store.margin_in.Goals as goal

pub returns-clause-is : goal.returns-clause-is
returns-clause-is g c =
    let s = c.args.self.now in
    let a = c.args.account in
    let k = c.args.class in
    let x = c.index-deref-account.result in
    let price : get_or s.tables.prices k c.index-self-class.result ≡ prices_at s.tables.prices k = get_or_default s.tables.prices k _ _ (omega arith) in
    let here : x ≡ get_or s.tables.accounts.items a x = c.index-deref-account.is ∙ ap (λ (xs : List Account). get_or xs a x) c.deref.ensures.0 in
    let row : row_of x ≡ (state_in s).rows a = ap row_of here ∙ sym (get_or-map row_of s.tables.accounts.items a x nil_row c.requires.known.0) in
    let lots : to_z w32 (of_z w32 c.lots.result) ≡ ((state_in s).rows a).lots k = to_z-of_z w32 _ (record { sfits = c.lots.type_inv }) ∙ c.lots.ensures.is ∙ ap (λ (r : Row). r.lots k) row in
    let quantity = c.quantity_of.ensures ∙ ap (λ (d : Day). d.quantity k) c.day.ensures.day in
    to_z-of_z w128 _ (record { sfits = c.margin_of.type_inv })
    ∙ c.margin_of.ensures.is
    ∙ (λ i. margin_of (cents_in (price i).repriced) (cents_in (price i).last) (c.interval_of.ensures i) (quantity i) (lots i))
