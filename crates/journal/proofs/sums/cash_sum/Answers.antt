use Rattle.std.proofs.Common.{◌≡◌, ℕ, ℤ, ◌^◌, ◌<◌, ◌≤◌, nat_abs, pos, rules, ap, ◌∙◌, arith}
use mir.Syntax.{w128}
use Rattle.amounts.specs.SumsOfWhole.{sum_z}
use Rattle.book.specs.Books.{book_of, meaning_of}
use Rattle.terms.proofs.Made.{each-made}
use Rattle.journal.proofs.Totals.{accounts-few, few, small, sum-of}
use Rattle.std.proofs.lemmas.Int.{to_z-of_z}
use Rattle.std.proofs.lemmas.List.{length-take}
use Rattle.journal.proofs.sums.cash_sum.Goals as goal

pub slice_bounds-cash-end : goal.slice_bounds-cash-end
slice_bounds-cash-end g c = omega (arith, accounts-few (meaning_of c.args.book.now) (book_of c.args.book.now) c.args.book.now.lived, c.accounts.ensures, c.from_fn-cash.ensures.items.long)

pub slice_bounds-total-end : goal.slice_bounds-total-end
slice_bounds-total-end g c = omega (arith, accounts-few (meaning_of c.args.book.now) (book_of c.args.book.now) c.args.book.now.lived, c.accounts.ensures, c.from_fn-cash.ensures.items.long, length-take c.accounts.result c.from_fn-cash.result)

pub total-requires : goal.total-requires
total-requires g c =
    let n = c.accounts.result in
    let xs = c.from_fn-cash.result in
    let in_use : n ≤ 32 = omega (arith, accounts-few (meaning_of c.args.book.now) (book_of c.args.book.now) c.args.book.now.lived, c.accounts.ensures) in
    (few n xs (omega arith), small n xs (2 ^ 112) 32 in_use (λ i h. let b = each-made _ _ (λ i y. nat_abs y ≤ 2 ^ 63) (λ i y q k. (search rules, search rules)) xs 32 c.from_fn-cash.ensures.items i (pos 0) h in omega (arith, b)))

pub returns : goal.returns
returns g c =
    let n = c.accounts.result in
    let xs = c.from_fn-cash.result in
    let f : ℕ → ℤ = λ a. ((book_of c.args.book.now).rows a).cash in
    let in_use : n ≤ 32 = omega (arith, accounts-few (meaning_of c.args.book.now) (book_of c.args.book.now) c.args.book.now.lived, c.accounts.ensures) in
    to_z-of_z w128 c.total.result (record { sfits = c.total.type_inv }) ∙ c.total.ensures
    ∙ sum-of n xs f (omega (arith, c.from_fn-cash.ensures.items.long)) (λ i h. each-made _ _ (λ i y. i < n → y ≡ f i) (λ i y q k. (search rules, search rules)) xs 32 c.from_fn-cash.ensures.items i (pos 0) (omega arith) h)
    ∙ ap (λ k. sum_z k f) c.accounts.ensures
