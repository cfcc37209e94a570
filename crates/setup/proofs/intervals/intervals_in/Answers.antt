use Rattle.std.proofs.Common.{vec_items, []}
use Rattle.std.proofs.lemmas.Result.{err_from_is_err_and}
use Rattle.rows.specs.Fields.{fields}
use Rattle.setup.proofs.Listing.{goes_on, breaks-off, comes-to-end}
use Rattle.setup.proofs.intervals.intervals_in.Goals as goal

pub returns-in_err-interval_of : goal.returns-in_err-interval_of
returns-in_err-interval_of c =
    let p = err_from_is_err_and c.from_residual.result c.from_residual.ensures.1 in
    rw (p.1, p.2) (breaks-off (vec_items c.loop-field.intervals) (fields c.in-Some.others.now) c.loop-field.invariant c.in-Some.ensures c.in_err-interval_of.ensures)

pub loop-field-preserved : goal.loop-field-preserved
loop-field-preserved c =
    goes_on (vec_items c.loop-field.intervals) (fields c.in-Some.others.now) c.loop-field.invariant c.in-Some.ensures c.in_ok-interval_of.ensures c.in_ok-push.ensures.items

pub returns-in_err-interval_of-2 : goal.returns-in_err-interval_of-2
returns-in_err-interval_of-2 c =
    let p = err_from_is_err_and c.from_residual-in_err-interval_of-2.result c.from_residual-in_err-interval_of-2.ensures.1 in
    rw (p.1, p.2) (breaks-off (vec_items c.loop-field.intervals) [] c.loop-field.invariant c.in_default.ensures c.in_err-interval_of-2.ensures)

pub returns : goal.returns
returns c =
    comes-to-end (vec_items c.loop-field.intervals) c.loop-field.invariant c.in_default.ensures c.in_ok-interval_of-2.ensures c.in_ok-push-2.ensures.items
