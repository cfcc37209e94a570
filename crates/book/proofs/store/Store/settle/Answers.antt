use Rattle.std.proofs.Common.{Option, sym, ap, ◌∙◌, length, w32}
use Rattle.std.proofs.lemmas.Int.{to_z-of_z}
use Rattle.book.proofs.Afters.{accepted}
use Rattle.book.proofs.Settles.{written_same}
use Rattle.book.specs.Stores.{meaning_in, state_in}
use Rattle.ledger.specs.Calls.{today, settle_pay, refusal, paid}
use Rattle.ledger.specs.Questions.{list_done, written}
use Rattle.ledger.specs.Words.{at, unless}
use Rattle.ledger.specs.declared.call.Call.TheVariants.{Settle}
use Rattle.ledger.specs.declared.fault.Fault.{Fault}
use Rattle.book.proofs.store.Store.settle.Goals as goal

pub returns-clause-after : goal.returns-clause-after
returns-clause-after g c =
    let s = c.args.self.now in
    let b = state_in s in
    let w = meaning_in s in
    let p = to_z-of_z w32 c.args.price c.ranges.price in
    let room = length c.args.list.now in
    c.pay_out.ensures.state c.args.price room (λ a h. c.in_ok-pays.ensures.pays a h ∙ ap (λ x. settle_pay (today w b) b.market x (b.rows a)) p)
    ∙ sym (accepted w b (Settle c.args.price room) (ap (λ x. refusal w b (Settle x room)) (sym p) ∙ c.in_ok-pays.ensures.answer))

pub returns-clause-list : goal.returns-clause-list
returns-clause-list g c =
    let s = c.args.self.now in
    let b = state_in s in
    let w = meaning_in s in
    let p = to_z-of_z w32 c.args.price c.ranges.price in
    let list = c.args.list.now in
    let call = Settle c.args.price (length list) in
    c.write_lines.ensures
    ∙ ap (λ n. written list n (at c.in_ok-pays.pays)) c.len.ensures.value
    ∙ written_same b.made.accounts list (at c.in_ok-pays.pays) (paid w b call) (λ a h. c.in_ok-pays.ensures.pays a h ∙ ap (λ x. settle_pay (today w b) b.market x (b.rows a)) p)
    ∙ sym (ap (λ (o : Option Fault). unless o (list_done w b call list) list) (ap (λ x. refusal w b (Settle x (length list))) (sym p) ∙ c.in_ok-pays.ensures.answer))
