use Rattle.std.proofs.Common.{◌≡◌, ◌++◌, ℕ, List, ap, ◌∙◌, subst, to_z, of_z, arith}
use mir.Syntax.{w32}
use Rattle.book.specs.Books.{book_of, meaning_of}
use Rattle.ledger.specs.declared.call.Call.{Call}
use Rattle.life.specs.DayCalls.{mark_calls}
use Rattle.reckoning.proofs.Ranges.{flat_map-range_more}
use Rattle.std.proofs.lemmas.Int.{to_z-of_z}
use Rattle.std.specs.List.{flat_map, range_with_len}
use Rattle.life.proofs.day_calls.push_marks.Goals as goal

pub loop-class-preserved : goal.loop-class-preserved
loop-class-preserved g c =
    let b = c.args.book.now in
    let marks = mark_calls (meaning_of b) (book_of b) (to_z w32 (of_z w32 c.args.price)) in
    c.in_ok-push_mark.ensures ∙ (ap (λ (calls : List Call). calls ++ marks c.loop-class.class) c.loop-class.invariant ∙ flat_map-range_more marks c.args.calls.now.items c.loop-class.class)

pub returns : goal.returns
returns g c =
    let b = c.args.book.now in
    let w = meaning_of b in
    let classes : c.classes-class-end.result ≡ w.classes = c.classes-class-end.ensures ∙ ap (λ t. (g.T.Terms.meaning t).classes) c.terms.ensures in
    let e : c.loop-class.class ≡ w.classes = omega (arith, classes) in
    let same : to_z w32 (of_z w32 c.args.price) ≡ c.args.price = to_z-of_z w32 c.args.price c.ranges.price in
    subst (λ p. c.loop-class.calls.items ≡ c.args.calls.now.items ++ flat_map (mark_calls w (book_of b) p) (range_with_len 0 w.classes)) same (c.loop-class.invariant ∙ ap (λ (n : ℕ). c.args.calls.now.items ++ flat_map (mark_calls w (book_of b) (to_z w32 (of_z w32 c.args.price))) (range_with_len 0 n)) e)
