use Rattle.std.proofs.Common.{◌≡◌, pos, sym, ◌∙◌, get_or, arith, to_z, of_z, w32}
use Rattle.std.proofs.lemmas.Int.{ints}
use Rattle.book.proofs.Places.{no-parts}
use Rattle.book.specs.Rows.{row_of}
use Rattle.book.proofs.account.Account.after_parts.Goals as goal

pub returns-then-not-day-clause-is : goal.returns-then-not-day-clause-is
returns-then-not-day-clause-is c =
    let x = c.args.self.now in
    let same : to_z w32 (of_z w32 (get_or x.lots c.args.class (pos 0))) ≡ get_or x.lots c.args.class (pos 0) = omega (arith, ints, x.within c.args.class) in
    same ∙ sym (no-parts c.args.day.now (row_of x) c.args.class c.requires.1.1 c.if-not-day.true)
