use Rattle.std.proofs.Common.{sym}
use Rattle.book.specs.Rows.{rows_of}
use Rattle.book.proofs.close.carry_accounts.Goals as goal

pub returns-then-day-clause-rows : goal.returns-then-day-clause-rows
returns-then-day-clause-rows c = λ a l i. record (rows_of c.args.accounts.now a) { lots = λ t. sym (c.requires.stays c.if-day.true a t l) i }
