use Rattle.std.proofs.Common.{◌≡◌, ◌+◌, length}
use Rattle.life.specs.Lives.{terms_in, meaning_in, run_of}
use Rattle.life.specs.Runs.{rows_run}
use Rattle.rows.specs.Headings.{places_in}
use Rattle.text.specs.Readers.{lines_left, lines_read}
use Rattle.life.proofs.life.Teller.rows.Given as goal

abbrev pub invariant-loop-line : goal.invariant-loop-line
invariant-loop-line g l =
    let start = l.initial.life in
    let w = meaning_in start in
    let teller = l.self in
    let places = places_in l.names in
    (rows_run w teller.product teller.followed places (lines_read l.initial.rows + 1) (lines_left l.initial.rows) (run_of start) ≡ rows_run w teller.product teller.followed places (lines_read l.rows + 1) (lines_left l.rows) (run_of l.life))
    × (terms_in l.life ≡ terms_in start)

abbrev pub decreases-loop-line : goal.decreases-loop-line
decreases-loop-line g l = length (lines_left l.rows)
