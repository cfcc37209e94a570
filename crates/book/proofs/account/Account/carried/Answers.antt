use Rattle.std.proofs.Common.{◌≡◌, ◌≤◌, ℤ, nat_abs, sym, ap, ◌∙◌, subst, arith, to_z, of_z, w32}
use Rattle.std.proofs.lemmas.Int.{ints}
use Rattle.book.proofs.Places.{fit-small}
use Rattle.book.specs.Rows.{row_of}
use Rattle.day_table.specs.Table.{day_in}
use Rattle.ledger.specs.Calls.{lots_fit, after_parts}
use Rattle.terms.proofs.Ranges.{all-each}
use Rattle.book.proofs.account.Account.carried.Goals as goal

pub returns-in-Some-clause-bound : goal.returns-in-Some-clause-bound
returns-in-Some-clause-bound c =
    let d = day_in c.args.day.now in
    let r = row_of c.args.self.now in
    let class = c.in-Some.source in
    let same : to_z w32 (of_z w32 c.after_parts.result) ≡ c.after_parts.result = omega (arith, ints) in
    let fits = all-each d.classes (λ k. lots_fit (after_parts d r k)) c.requires.keeps class (c.requires.known.1 c.args.class class c.in-Some.is) in
    subst (λ (z : ℤ). nat_abs z ≤ 1000) (sym (same ∙ c.after_parts.ensures.is ∙ ap (after_parts d r) (omega arith))) (fit-small (after_parts d r class) fits)
