use Rattle.std.proofs.Common.{◌≡◌, ◌<◌, ◌==◌, length, ◌+ℤ◌, ◌*ℤ◌, ap, ◌∙◌, arith, to_z, of_z, w64, w32}
use Rattle.std.proofs.lemmas.Int.{ints}
use Rattle.amounts.specs.SumsOfWhole.{if_z}
use Rattle.ledger.specs.Words.{at}
use Rattle.book.proofs.Places.{more_set, more-small}
use Rattle.book.proofs.account.Account.take.Goals as goal

pub invariant_of-self : goal.invariant_of-self
invariant_of-self c =
    let x = c.args.self.now in
    let known : c.args.class < length x.traded = omega arith in
    let lots : to_z w32 (of_z w32 c.args.lots) ≡ c.args.lots = omega (arith, ints) in
    let traded : to_z w32 (of_z w32 c.traded_with-traded.result) ≡ at x.traded c.args.class +ℤ c.args.lots = omega (arith, ints, c.traded_with-traded.ensures) in
    let price : to_z w32 (of_z w32 c.args.price) ≡ c.args.price = omega (arith, ints) in
    let same : to_z w64 (of_z w64 c.cost_of-cost.result) ≡ c.cost_of-cost.result = omega (arith, ints) in
    let cost = same ∙ c.cost_of-cost.ensures.is ∙ (λ i. lots i *ℤ price i) in
    record {
      within = more-small 1000 x.lots c.add_lots.new.row c.args.class c.args.lots _ lots c.add_lots.ensures c.requires.room.lots x.within;
      traded_small = more-small 100000000 x.traded _ c.args.class c.args.lots _ (λ i. c.args.lots) (more_set x.traded c.args.class _ c.args.lots known traded) c.requires.room.traded x.traded_small;
      cost_small = more-small 10000000000000 x.cost c.add_cost.new.row c.args.class (c.args.lots *ℤ c.args.price) _ cost c.add_cost.ensures c.requires.room.cost x.cost_small;
    }

pub returns : goal.returns
returns c =
    let x = c.args.self.now in
    let known : c.args.class < length x.traded = omega arith in
    let lots : to_z w32 (of_z w32 c.args.lots) ≡ c.args.lots = omega (arith, ints) in
    let traded : to_z w32 (of_z w32 c.traded_with-traded.result) ≡ at x.traded c.args.class +ℤ c.args.lots = omega (arith, ints, c.traded_with-traded.ensures) in
    let price : to_z w32 (of_z w32 c.args.price) ≡ c.args.price = omega (arith, ints) in
    let same : to_z w64 (of_z w64 c.cost_of-cost.result) ≡ c.cost_of-cost.result = omega (arith, ints) in
    let cost = same ∙ c.cost_of-cost.ensures.is ∙ (λ i. lots i *ℤ price i) in
    λ i. record {
      lots = λ k. (c.add_lots.ensures k ∙ ap (λ v. at x.lots k +ℤ if_z (k == c.args.class) v) lots) i;
      traded = λ k. more_set x.traded c.args.class _ c.args.lots known traded k i;
      cost = λ k. (c.add_cost.ensures k ∙ ap (λ v. at x.cost k +ℤ if_z (k == c.args.class) v) cost) i;
      cash = x.cash;
    }
