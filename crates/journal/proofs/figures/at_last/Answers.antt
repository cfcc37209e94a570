use Rattle.std.proofs.Common.{◌≡◌, ℕ, ℤ, ◌^◌, ◌<◌, ◌≤◌, nat_abs, pos, rules, ap, ◌∙◌, arith}
use mir.Syntax.{w128}
use Rattle.amounts.specs.SumsOfWhole.{sum_z}
use Rattle.book.specs.Books.{book_of, meaning_of}
use Rattle.terms.proofs.Made.{each-made}
use Rattle.journal.proofs.Totals.{few, small, sum-of}
use Rattle.journal.specs.Figures.{last_in}
use Rattle.std.proofs.lemmas.Int.{to_z-of_z}
use Rattle.std.proofs.lemmas.List.{length-take}
use Rattle.journal.proofs.figures.at_last.Goals as goal

pub slice_bounds-parts-end : goal.slice_bounds-parts-end
slice_bounds-parts-end g c =
    omega (arith, (g.met.T.Terms.lawful c.terms.result.now).twelve, c.classes.ensures, c.from_fn-parts.ensures.items.long)

pub slice_bounds-total-end : goal.slice_bounds-total-end
slice_bounds-total-end g c =
    omega (arith, (g.met.T.Terms.lawful c.terms.result.now).twelve, c.classes.ensures, c.from_fn-parts.ensures.items.long, length-take c.classes.result c.from_fn-parts.result)

pub total-requires : goal.total-requires
total-requires g c =
    let n = c.classes.result in
    let xs = c.from_fn-parts.result in
    let in_use : n ≤ 12 = omega (arith, (g.met.T.Terms.lawful c.terms.result.now).twelve, c.classes.ensures) in
    (few n xs (omega arith), small n xs (2 ^ 112) 12 in_use (λ i h. let b = each-made _ _ (λ i y. nat_abs y ≤ 2 ^ 107) (λ i y q k. (search (rules, c.requires), search rules)) xs 12 c.from_fn-parts.ensures.items i (pos 0) h in omega (arith, b)))

pub returns : goal.returns
returns g c =
    let n = c.classes.result in
    let xs = c.from_fn-parts.result in
    let b = c.args.book.now in
    let f : ℕ → ℤ = last_in (meaning_of b) (book_of b) c.args.reading.now c.args.account in
    let in_use : n ≤ 12 = omega (arith, (g.met.T.Terms.lawful c.terms.result.now).twelve, c.classes.ensures) in
    let count : n ≡ (meaning_of b).classes = c.classes.ensures ∙ ap (λ t. (g.T.Terms.meaning t).classes) c.terms.ensures in
    to_z-of_z w128 c.total.result (record { sfits = c.total.type_inv }) ∙ c.total.ensures
    ∙ sum-of n xs f (omega (arith, c.from_fn-parts.ensures.items.long)) (λ i h. each-made _ _ (λ i y. i < (meaning_of b).classes → y ≡ f i) (λ i y q k. (search (rules, c.requires), search rules)) xs 12 c.from_fn-parts.ensures.items i (pos 0) (omega arith) (omega (arith, count)))
    ∙ ap (λ k. sum_z k f) count
