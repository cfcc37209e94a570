use Rattle.std.proofs.Common.{false, rules}
use Rattle.day_table.specs.Table.{class_at}
use Rattle.terms.proofs.Made.{made-by}
use Rattle.terms.specs.Meaning.{has_some_part}
use Rattle.day_table.proofs.reading.wholes.Goals as goal

pub returns : goal.returns
returns c =
    made-by _ _ (λ i. has_some_part (class_at c.args.classes.now i)) (λ i y q k. (search rules, search rules)) c.from_fn.result 12 false c.from_fn.ensures.items
