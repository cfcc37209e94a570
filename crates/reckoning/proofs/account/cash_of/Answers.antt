use Rattle.std.proofs.Common.{◌≡◌, Ok, pos, ap, ◌∙◌}
use mir.Syntax.{w64}
use Rattle.journal.specs.Journals.{state_of}
use Rattle.ledger.specs.Questions.{cash_refusal, cash}
use Rattle.ledger.specs.Words.{reply}
use Rattle.std.proofs.lemmas.Int.{to_z-of_z}
use Rattle.std.specs.Result.{result_unwrap_or}
use Rattle.reckoning.proofs.account.cash_of.Goals as goal

pub returns : goal.returns
returns g c =
    let s = state_of c.args.journal.now in
    let a = c.args.account in
    let known : c.cash.result ≡ Ok (cash s a) =
    c.cash.ensures ∙ (λ i. reply (cash_refusal (c.book.ensures.state i) a) (cash (c.book.ensures.state i) a)) ∙ ap (λ o. reply o (cash s a)) c.requires in
    to_z-of_z w64 c.unwrap_or.result (record { sfits = c.unwrap_or.type_inv }) ∙ c.unwrap_or.ensures ∙ ap (λ r. result_unwrap_or r (pos 0)) known
