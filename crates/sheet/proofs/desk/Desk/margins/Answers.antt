use Rattle.std.proofs.Common.{◌≡◌, Ok, take, rules, sym, ap, ◌∙◌, to_z, of_z}
use mir.Syntax.{w128}
use Rattle.ledger.specs.Questions.{margins_refusal, margins}
use Rattle.ledger.specs.Words.{reply}
use Rattle.std.proofs.lemmas.Int.{to_z-of_z}
use Rattle.sheet.proofs.Replying.{one_told}
use Rattle.sheet.specs.Desks.{meaning_at, state_at}
use Rattle.sheet.proofs.desk.Desk.margins.Goals as goal

pub returns-clause-told : goal.returns-clause-told
returns-clause-told g c =
    let d = c.args.self.now in
    let a = c.args.account in
    let w = meaning_at d in
    let s = state_at d in
    let cents = to_z w128 (of_z w128 c.in_ok-cents.cents) in
    let same : cents ≡ c.in_ok-cents.cents = search (rules, to_z-of_z) in
    let is : c.margins.result ≡ reply (margins_refusal w s a) (margins w s a) = c.margins.ensures ∙ (λ i. reply (margins_refusal (g.T.Terms.meaning (c.book.ensures.terms i)) (c.book.ensures.state i) a) (margins (g.T.Terms.meaning (c.book.ensures.terms i)) (c.book.ensures.state i) a)) in
    let was : c.margins.result ≡ Ok cents = c.in_ok-cents.was ∙ ap Ok (sym same) in
    one_told (margins_refusal w s a) (margins w s a) cents a (take 1 c.put_first.new.list) (sym is ∙ was) c.put_first.ensures
