use Rattle.std.proofs.Common.{◌≡◌, ◌^◌, ◌≤◌, nat_abs, pos, rules, ap, ◌∙◌, arith}
use mir.Syntax.{w128}
use Rattle.amounts.proofs.Sums.{sum_same}
use Rattle.amounts.specs.SumsOfWhole.{sum_z}
use Rattle.terms.proofs.Made.{each-made}
use Rattle.journal.specs.Figures.{final_in}
use Rattle.ledger.specs.Words.{at}
use Rattle.std.proofs.lemmas.Int.{to_z-of_z}
use Rattle.journal.proofs.figures.at_final.Goals as goal

pub total-requires : goal.total-requires
total-requires g c =
    let xs = c.from_fn-parts.result in
    let long = c.from_fn-parts.ensures.items.long in
    (omega (arith, long), λ i h. let b = each-made _ _ (λ i y. nat_abs y ≤ 2 ^ 107) (λ i y q k. (search (rules, c.requires), search rules)) xs 1200 c.from_fn-parts.ensures.items i (pos 0) (omega (arith, long)) in omega (arith, b))

pub returns : goal.returns
returns g c =
    let xs = c.from_fn-parts.result in
    let f = final_in (g.T.Terms.meaning c.args.terms.now) c.args.reading.now in
    to_z-of_z w128 c.total.result (record { sfits = c.total.type_inv }) ∙ c.total.ensures
    ∙ ap (λ n. sum_z n (at xs)) c.from_fn-parts.ensures.items.long
    ∙ sum_same 1200 (at xs) f (λ i h. each-made _ _ (λ i y. y ≡ f i) (λ i y q k. (search (rules, c.requires), search rules)) xs 1200 c.from_fn-parts.ensures.items i (pos 0) h)
