use Rattle.std.proofs.Common.{rules}
use Rattle.day_sheet.specs.DaySheet.{bench_line}
use Rattle.terms.proofs.Made.{made-by}
use Rattle.day_sheet.proofs.bench_book.lines.Goals as goal

pub returns : goal.returns
returns c = made-by _ _ bench_line (λ i y q k. (search rules, search rules)) c.from_fn.result 11 (record { class = 0; interval = 0 }) c.from_fn.ensures.items
