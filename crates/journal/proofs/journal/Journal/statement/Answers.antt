use Rattle.std.proofs.Common.{sym, ap, ◌∙◌}
use mir.Syntax.{w128}
use Rattle.amounts.specs.SumsOfWhole.{sum_z}
use Rattle.journal.proofs.Statings.{answered, at-last-is, at-final-is}
use Rattle.journal.specs.Figures.{final_in}
use Rattle.journal.specs.Journals.{terms_of, meaning_of, history_of, state_of}
use Rattle.ledger.specs.Questions.{cash_refusal}
use Rattle.std.proofs.lemmas.Int.{to_z-of_z}
use Rattle.journal.proofs.journal.Journal.statement.Goals as goal

pub returns : goal.returns
returns g c =
    let j = c.args.self.now in
    let w = meaning_of j in
    let h = history_of j in
    let r = c.read-reading.result in
    let told = c.read-reading.ensures in
    record {
      known = answered (cash_refusal (state_of j) c.args.account) _ c.in_ok-cash.field-0 (sym c.cash.ensures ∙ c.in_ok-cash.was);
      states = record {
        told = told;
        at_last = to_z-of_z w128 c.at_last.result (record { sfits = c.at_last.type_inv }) ∙ c.at_last.ensures ∙ at-last-is w h (state_of j) j.lived r c.args.account told (g.met.T.Terms.lawful (terms_of j)).twelve;
        at_final = to_z-of_z w128 c.at_final.result (record { sfits = c.at_final.type_inv }) ∙ c.at_final.ensures ∙ ap (λ t. sum_z 1200 (final_in (g.T.Terms.meaning t) r)) c.terms.ensures ∙ at-final-is w h (state_of j) j.lived r c.args.account told;
      };
      refused = tt;
    }
