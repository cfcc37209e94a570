use Rattle.std.proofs.Common.{◌≡◌, length, vec_items}
use Rattle.rows.specs.Fields.{fields}
use Rattle.setup.specs.Setups.{intervals_named, numbers_in}
use Rattle.setup.proofs.Listing.{after}
use Rattle.setup.proofs.intervals.intervals_in.Given as goal

abbrev pub invariant-loop-field : goal.invariant-loop-field
invariant-loop-field l = after (vec_items l.intervals) (numbers_in (fields l.rest)) ≡ intervals_named l.word

abbrev pub decreases-loop-field : goal.decreases-loop-field
decreases-loop-field l = length (fields l.rest)
