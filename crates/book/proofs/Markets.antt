-- A price table that is written. Assumes nothing.
use Rattle.std.proofs.Common.{◌≡◌, ℕ, ◌<◌, cond, eqb, List, length, set, Option, None, ℤ, sym, ap, ◌∙◌, ⊎_elim, get_or-set_other}
use Rattle.std.proofs.lemmas.Bool.{cases_eq}
use Rattle.std.proofs.lemmas.Grind.{get_or-set_at}
use Rattle.book.specs.Markets.{cents_in, prices_at, market_of}
use Rattle.book.specs.declared.prices.Prices.{Prices}
use Rattle.ledger.proofs.Tests.{put-here, put-there}
use Rattle.ledger.specs.State.{Market}
use Rattle.ledger.specs.Words.{put}

abbrev pub no_prices : Prices
no_prices = record { last = None; today = None; repriced = None }

-- a figure of a table of prices, one place of which is written
one-set : {A : Type 0} (f : Prices → A) (ps : List Prices) (c : ℕ) (v : Prices) → c < length ps → (i : ℕ) → f (prices_at (set ps c v) i) ≡ cond (eqb i c) (f v) (f (prices_at ps i))
one-set f ps c v h i =
    ⊎_elim
    (λ (z : i ≡ c). ap f (get_or-set_at ps c i v _ z h) ∙ sym (put-here i c (f v) (f (prices_at ps i)) z))
    (λ (z : i ≡ c → ⊥). ap f (get_or-set_other ps c i v _ z) ∙ sym (put-there i c (f v) (f (prices_at ps i)) z))
    (cases_eq i c)

-- a place that is written as it was
same-put : {A : Type 0} (f : ℕ → A) (c : ℕ) (x : A) → x ≡ f c → put f c x ≡ f
same-put f c x e = λ k i.
    ⊎_elim
    (λ (z : i ≡ c). put-here i c x (f i) z ∙ e ∙ ap f (sym z))
    (λ (z : i ≡ c → ⊥). put-there i c x (f i) z)
    (cases_eq i c) k

pub market-set : (d n : ℕ) (ps : List Prices) (c : ℕ) (v : Prices) → c < length ps → market_of d n (set ps c v) ≡ record { day = d; accepted = n; last = put (market_of d n ps).last c (cents_in v.last); today = put (market_of d n ps).today c (cents_in v.today); repriced = put (market_of d n ps).repriced c (cents_in v.repriced) }
market-set d n ps c v h = λ k. record {
  day = d;
  accepted = n;
  last = λ i. one-set (λ p. cents_in p.last) ps c v h i k;
  today = λ i. one-set (λ p. cents_in p.today) ps c v h i k;
  repriced = λ i. one-set (λ p. cents_in p.repriced) ps c v h i k;
}

module _ (d n : ℕ) (ps : List Prices) (c : ℕ) (v : Prices) (h : c < length ps) where
  abbrev m : Market
  m = market_of d n ps

  pub marked : (x : Option ℤ) → v.last ≡ (prices_at ps c).last → v.repriced ≡ (prices_at ps c).repriced → cents_in v.today ≡ x → market_of d n (set ps c v) ≡ record m { today = put m.today c x }
  marked x l r t = market-set d n ps c v h ∙ (λ k. record m {
    last = same-put m.last c (cents_in v.last) (ap cents_in l) k;
    today = put m.today c (t k);
    repriced = same-put m.repriced c (cents_in v.repriced) (ap cents_in r) k;
  })

  pub repriced : (x : Option ℤ) → v.last ≡ (prices_at ps c).last → v.today ≡ (prices_at ps c).today → cents_in v.repriced ≡ x → market_of d n (set ps c v) ≡ record m { repriced = put m.repriced c x }
  repriced x l t r = market-set d n ps c v h ∙ (λ k. record m {
    last = same-put m.last c (cents_in v.last) (ap cents_in l) k;
    today = same-put m.today c (cents_in v.today) (ap cents_in t) k;
    repriced = put m.repriced c (r k);
  })

  pub settled : v.last ≡ None → v.today ≡ (prices_at ps c).today → v.repriced ≡ None → market_of d n (set ps c v) ≡ record m { last = put m.last c None; repriced = put m.repriced c None }
  settled l t r = market-set d n ps c v h ∙ (λ k. record m {
    last = put m.last c (ap cents_in l k);
    today = same-put m.today c (cents_in v.today) (ap cents_in t) k;
    repriced = put m.repriced c (ap cents_in r k);
  })
