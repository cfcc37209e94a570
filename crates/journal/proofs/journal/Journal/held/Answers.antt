use Rattle.std.proofs.Common.{Ok, sym, ap, ◌∙◌}
use mir.Syntax.{w128}
use Rattle.journal.proofs.Statings.{answered, held-is}
use Rattle.journal.specs.Journals.{meaning_of, history_of, state_of, held_in_month}
use Rattle.ledger.specs.Questions.{cash_refusal}
use Rattle.ledger.specs.Words.{reply}
use Rattle.std.proofs.lemmas.Int.{to_z-of_z}
use Rattle.journal.proofs.journal.Journal.held.Goals as goal

pub returns : goal.returns
returns g c =
    let j = c.args.self.now in
    let known = answered (cash_refusal (state_of j) c.args.account) _ c.in_ok-cash.field-0 (sym c.cash.ensures ∙ c.in_ok-cash.was) in
    let e = to_z-of_z w128 c.held_total.result (record { sfits = c.held_total.type_inv }) ∙ c.held_total.ensures ∙ held-is (meaning_of j) (history_of j) (state_of j) j.lived c.args.account c.args.month in
    ap Ok e ∙ ap (λ o. reply o (held_in_month j c.args.account c.args.month)) (sym known)
