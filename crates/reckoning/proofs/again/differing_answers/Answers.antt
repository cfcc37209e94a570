use Rattle.std.proofs.Common.{◌≡◌, length, reverse, rules, arith, ap, ◌∙◌, subst}
use Rattle.std.proofs.lemmas.Grind.{common_steps}
use Rattle.book.specs.Books.{book_of}
use Rattle.journal.specs.Journals.{meaning_of, state_of, entries_of}
use Rattle.ledger.specs.Ledger.{Life}
use Rattle.ledger.specs.Make.{made_of}
use Rattle.ledger.specs.State.{State}
use Rattle.reckoning.proofs.SameAnswers.{none-differs, calls}
use Rattle.reckoning.specs.Again.{differing}
use Rattle.terms.specs.Meaning.{Meaning}
use Rattle.reckoning.proofs.again.differing_answers.Goals as goal

pub returns-in-Ok-clause-counts : goal.returns-in-Ok-clause-counts
returns-in-Ok-clause-counts g c =
    let j = c.args.journal.now in
    let copied : c.as_mut_slice.result.now ≡ entries_of j = search rules in
    let long = ap length c.replay.ensures.calls in
    let whole : c.as_slice.result.now ≡ c.replay.new.entries = grind (arith, common_steps) in
    let count : c.accounts-accounts.result ≡ (state_of j).made.accounts = c.accounts-accounts.ensures ∙ ap (λ (s : State). s.made.accounts) c.book.ensures.state in
    ∣ record {
      entries = c.replay.new.entries;
      state = book_of c.in-Ok.field-0;
      made = c.in-Ok.ensures.begun ∙ ap (λ n. made_of c.args.month n c.args.lines.now) count;
      calls = subst (λ xs. calls c.replay.new.entries ≡ calls xs) copied c.replay.ensures.calls;
      life = subst (λ (w : Meaning). Life w (reverse c.replay.new.entries) (book_of c.in-Ok.field-0)) (ap g.T.Terms.meaning c.in-Ok.ensures.terms) c.in-Ok.ensures.life;
      count = c.differing.ensures ∙ (λ i. differing (c.entries-in-Ok.ensures.is i) (whole i));
    } ∣₁

pub returns-in-Ok-clause-same : goal.returns-in-Ok-clause-same
returns-in-Ok-clause-same g c same =
    let j = c.args.journal.now in
    none-differs (g.T.Terms.meaning c.args.terms) (meaning_of j) c.args.month c.args.lines.now (entries_of j) (state_of j) c.differing.result same.meaning same.start (returns-in-Ok-clause-counts g c) j.lived
