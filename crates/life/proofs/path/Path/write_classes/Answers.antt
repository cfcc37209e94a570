use Rattle.std.proofs.Common.{◌≡◌, ◌++◌, ℕ, List, ap, ◌∙◌, string_bytes, arith}
use Rattle.book.specs.Books.{book_of, meaning_of}
use Rattle.life.specs.Paths.{class_row}
use Rattle.reckoning.proofs.Ranges.{flat_map-range_more}
use Rattle.std.specs.List.{flat_map, range_with_len}
use Rattle.life.proofs.path.Path.write_classes.Goals as goal

pub loop-class-preserved : goal.loop-class-preserved
loop-class-preserved g c =
    let p = c.args.self.now in
    let row = class_row (meaning_of p.book.now) p.product (book_of p.book.now) p.account in
    c.in_ok-write_class.ensures ∙ (ap (λ (bs : List ℕ). bs ++ row c.loop-class.class) c.loop-class.invariant ∙ flat_map-range_more row (string_bytes c.args.text.now) c.loop-class.class)

pub returns : goal.returns
returns g c =
    let p = c.args.self.now in
    let w = meaning_of p.book.now in
    let row = class_row w p.product (book_of p.book.now) p.account in
    let classes : c.classes-class-end.result ≡ w.classes = c.classes-class-end.ensures ∙ ap (λ t. (g.T.Terms.meaning t).classes) c.terms.ensures in
    let e : c.loop-class.class ≡ w.classes = omega (arith, classes) in
    c.loop-class.invariant ∙ ap (λ (n : ℕ). string_bytes c.args.text.now ++ flat_map row (range_with_len 0 n)) e
