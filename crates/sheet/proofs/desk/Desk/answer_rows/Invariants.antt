use Rattle.std.proofs.Common.{◌≡◌, ◌+◌, length, string_bytes}
use Rattle.rows.specs.Headings.{places_in}
use Rattle.sheet.proofs.Rows.{Along}
use Rattle.sheet.specs.Desks.{terms_at, meaning_at, state_at, entries_at}
use Rattle.text.specs.Readers.{lines_left, lines_read}
use Rattle.sheet.proofs.desk.Desk.answer_rows.Given as goal

abbrev pub invariant-loop-line : goal.invariant-loop-line
invariant-loop-line g l =
    let d = l.initial.self in
    let e = l.self in
    Along (meaning_at d) l.product (places_in l.names) (string_bytes l.initial.text) (string_bytes l.text) (lines_read l.initial.rows + 1) (lines_read l.rows + 1) (state_at d) (state_at e) (entries_at d) (entries_at e) (lines_left l.initial.rows) (lines_left l.rows)
    × (terms_at e ≡ terms_at d)

abbrev pub decreases-loop-line : goal.decreases-loop-line
decreases-loop-line g l = length (lines_left l.rows)
