use Rattle.std.proofs.Common.{Option, sym, ap, ◌∙◌, length}
use Rattle.book.proofs.Afters.{accepted}
use Rattle.book.proofs.Settles.{written_same}
use Rattle.book.specs.Stores.{meaning_in, state_in}
use Rattle.ledger.specs.Calls.{paid}
use Rattle.ledger.specs.Questions.{list_done, written}
use Rattle.ledger.specs.Words.{at, unless}
use Rattle.ledger.specs.declared.call.Call.TheVariants.{Close}
use Rattle.ledger.specs.declared.fault.Fault.{Fault}
use Rattle.book.proofs.store.Store.close.Goals as goal

pub returns-clause-after : goal.returns-clause-after
returns-clause-after g c =
    let s = c.args.self.now in
    let b = state_in s in
    let w = meaning_in s in
    let room = length c.args.list.now in
    c.go_on.ensures.state room ∙ sym (accepted w b (Close room) c.in_ok-pays.ensures.answer)

pub returns-clause-list : goal.returns-clause-list
returns-clause-list g c =
    let s = c.args.self.now in
    let b = state_in s in
    let w = meaning_in s in
    let list = c.args.list.now in
    let call = Close (length list) in
    c.write_lines.ensures
    ∙ ap (λ n. written list n (at c.in_ok-pays.pays)) c.len.ensures.value
    ∙ written_same b.made.accounts list (at c.in_ok-pays.pays) (paid w b call) c.in_ok-pays.ensures.pays
    ∙ sym (ap (λ (o : Option Fault). unless o (list_done w b call list) list) c.in_ok-pays.ensures.answer)
