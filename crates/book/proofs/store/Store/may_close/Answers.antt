use Rattle.std.proofs.Common.{◌≡◌, true, false, leb, is_some, sym, ap, ◌∙◌, arith}
use Rattle.std.proofs.lemmas.Bool.{le-leb}
use Rattle.book.proofs.Afters.{close-asked, not-unsettled}
use Rattle.book.specs.Stores.{meaning_in, state_in}
use Rattle.ledger.specs.Calls.{today, by_end, close_pay}
use Rattle.terms.specs.Day.{Day}
use Rattle.book.proofs.store.Store.may_close.Goals as goal

pub returns-then-not-may_pay-clause-answer : goal.returns-then-not-may_pay-clause-answer
returns-then-not-may_pay-clause-answer g c =
    let s = c.args.self.now in
    let b = state_in s in
    let w = meaning_in s in
    let l : leb b.made.accounts c.args.room ≡ true = le-leb b.made.accounts c.args.room (omega (arith, c.if-len-room.false, c.len.ensures.value)) in
    close-asked w b c.args.room false l
    (sym c.all_priced.ensures ∙ c.if-not-all_priced.false)
    (not-unsettled (today w b).taken_over (is_some (b.market.last w.settling)) (sym c.is_unsettled.ensures ∙ c.if-is_unsettled.false))
    (sym c.keeps_limit.ensures ∙ c.if-not-keeps_limit.false)
    (ap (λ (d : Day). by_end d.next) (sym c.day.ensures.day) ∙ sym c.is_by_end.ensures ∙ c.if-not-is_by_end.false)
    (sym (c.may_pay.ensures.is (close_pay (today w b) b.market) c.close_pays-pays.ensures) ∙ c.if-not-may_pay.true)

pub returns-clause-answer : goal.returns-clause-answer
returns-clause-answer g c =
    let s = c.args.self.now in
    let b = state_in s in
    let w = meaning_in s in
    let l : leb b.made.accounts c.args.room ≡ true = le-leb b.made.accounts c.args.room (omega (arith, c.if-len-room.false, c.len.ensures.value)) in
    close-asked w b c.args.room true l
    (sym c.all_priced.ensures ∙ c.if-not-all_priced.false)
    (not-unsettled (today w b).taken_over (is_some (b.market.last w.settling)) (sym c.is_unsettled.ensures ∙ c.if-is_unsettled.false))
    (sym c.keeps_limit.ensures ∙ c.if-not-keeps_limit.false)
    (ap (λ (d : Day). by_end d.next) (sym c.day.ensures.day) ∙ sym c.is_by_end.ensures ∙ c.if-not-is_by_end.false)
    (sym (c.may_pay.ensures.is (close_pay (today w b) b.market) c.close_pays-pays.ensures) ∙ c.if-not-may_pay.false)
