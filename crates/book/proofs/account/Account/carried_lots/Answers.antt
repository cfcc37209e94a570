use Rattle.std.proofs.Common.{◌≡◌, ◌≤◌, ℤ, pos, None, get_or, nat_abs, sym, ap, arith, lit<, rules}
use Rattle.std.proofs.lemmas.List.{get_or_past}
use Rattle.book.proofs.Loops.{made-each, serves-index}
use Rattle.book.specs.Rows.{row_of}
use Rattle.day_table.specs.Table.{day_in}
use Rattle.ledger.specs.Calls.{after_parts}
use Rattle.ledger.specs.Words.{from}
use Rattle.book.proofs.account.Account.carried_lots.Goals as goal

pub from_fn-requires : goal.from_fn-requires
from_fn-requires c = (lit< tt, serves-index (λ x q r. search rules) (λ x h _ _ _ _ _ _. ((h, c.requires.known), (c.requires.day, c.requires.keeps))))

pub returns-clause-is : goal.returns-clause-is
returns-clause-is c =
    let gone = after_parts (day_in c.args.day.now) (row_of c.args.self.now) in
    let sources = c.args.sources.now in
    made-each _ _ (λ t (y : ℤ). y ≡ from (get_or sources t None) (pos 0) gone) (λ i y q k. (search rules, search rules)) c.from_fn.result 12 (pos 0) c.from_fn.ensures.items
    (λ t l. sym (ap (λ s. from s (pos 0) gone) (get_or_past sources t None (omega arith))))

pub returns-clause-bound : goal.returns-clause-bound
returns-clause-bound c =
    made-each _ _ (λ t (y : ℤ). nat_abs y ≤ 1000) (λ i y q k. (search rules, search rules)) c.from_fn.result 12 (pos 0) c.from_fn.ensures.items (λ t l. omega arith)
