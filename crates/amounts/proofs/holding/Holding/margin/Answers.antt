use Rattle.std.proofs.Common.{◌≡◌, ◌^◌, ◌≤◌, pos, ℤ, ◌*ℤ◌, map, rules, ap, ◌∙◌, sym, arith, unwrap_or, to_z, of_z}
use mir.Syntax.{w128}
use Rattle.std.proofs.lemmas.Int.{to_z-of_z}
use Rattle.std.proofs.lemmas.Iterator.{YieldsList-from_map, YieldsList-from_slice}
use Rattle.std.proofs.lemmas.Iterator.Consumers.{reduce_from_yields_List}
use Rattle.std.specs.List.{reduce}
use Rattle.std.specs.Ordering.{int_cmp, min_by_ordering}
use Rattle.amounts.specs.Amounts.{floor_by, least_of, class_margin}
use Rattle.amounts.specs.Steps.{factor_of, all_steps, steps}
use Rattle.amounts.proofs.Exact.{fits-size}
use Rattle.amounts.proofs.MarginLaws.{by-whole, picks-least, least-of-ten, margin-size}
use Rattle.amounts.proofs.holding.Holding.margin.Goals as goal

least : (c : goal.After-unwrap_or) → to_z w128 (of_z w128 c.unwrap_or.result) ≡ class_margin c.args.price c.args.interval c.args.self.now.quantity c.args.self.now.lots
unfolding class_margin
least c =
    let f : _ → ℤ = λ s. floor_by 50000 (c.args.price *ℤ pos c.args.interval *ℤ factor_of s *ℤ c.whole_quantity-whole.result) in
    let e = reduce_from_yields_List (λ p z. min_by_ordering (int_cmp p z) p z) c.map.result c.min.result c.min.ensures.ran (YieldsList-from_map _ f (YieldsList-from_slice all_steps (cc)) c.map.ensures.closure (λ x r q k. search rules)) in
    to_z-of_z w128 c.unwrap_or.result (record { sfits = c.unwrap_or.type_inv })
    ∙ c.unwrap_or.ensures ∙ ap (λ o. unwrap_or o (pos 0)) e ∙ (λ j. unwrap_or (reduce (λ p z. picks-least p z j) (map f all_steps)) (pos 0))
    ∙ (λ j. least_of (map (λ s. floor_by 50000 (by-whole c.args.price s c.args.self.now.lots c.whole_quantity-whole.result c.args.interval c.args.self.now.quantity c.whole_quantity-whole.ensures.is j)) steps))

pub returns : goal.returns
returns c =
    let ten = least-of-ten _ _ _ _ _ (least c) in
    let n : c.args.interval ≤ 2 ^ 16 = omega arith in
    record {
      is = least c;
      least = ten;
      bound = margin-size _ _ _ _ _ (fits-size _ c.ranges.price) n (rw (sym c.whole_quantity-whole.ensures.is) c.whole_quantity-whole.ensures.bound) ten;
    }
