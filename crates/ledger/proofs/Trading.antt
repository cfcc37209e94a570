-- An accepted trade keeps what every history keeps of a row: the row is as many times one lot more as the account has lots in
-- the trade. Assumes nothing.
use Rattle.std.proofs.Common.{◌≡◌, ℕ, ◌+◌, ◌<◌, Bool, true, false, not, ◌&&◌, eqb, leb, ltb, ℤ, pos, ◌+ℤ◌, ◌-ℤ◌, ◌*ℤ◌, is_some, None, Option, sym, ap, ◌∙◌, subst, arith}
use lib.IntN.{*ℤ_comm, *ℤ-zero}
use Rattle.amounts.proofs.Ring.{*ℤ-assoc}
use Rattle.amounts.specs.SumsOfWhole.{if_z}
use Rattle.ledger.proofs.Figures.{Figures, told}
use Rattle.ledger.proofs.Kept.{Open, Story, Kept, lot_story, kept-lot, kept-more, more_story}
use Rattle.ledger.proofs.Rules.{class_on, quantity_on, more, one_lot}
use Rattle.ledger.proofs.Tests.{ask-none, given-some}
use Rattle.ledger.specs.Calls.{known, lots_fit, price_fits, row_traded, refusal}
use Rattle.ledger.specs.State.{Market, Row, State}
use Rattle.ledger.specs.Words.{within, share}
use Rattle.ledger.specs.declared.call.Call.TheVariants.{Trade, Settle}
use Rattle.std.proofs.lemmas.Bool.{and_parts, ltb-true}
use Rattle.std.proofs.lemmas.Int.{ints}
use Rattle.terms.specs.Laws.{Laws}
use Rattle.terms.specs.Meaning.{Meaning, has, tradable}

-- ---- what the questions told of an accepted call

pub record MayTrade (w : Meaning) (s : State) (buyer seller c : ℕ) (n p : ℤ) : Type 0 where
  pub buys : buyer < s.made.accounts
  pub sells : seller < s.made.accounts
  pub apart : not (eqb buyer seller) ≡ true
  pub opened : tradable (class_on w s.market c) ≡ true
  pub lots : within (pos 1) (pos 1000) n ≡ true
  pub price : price_fits p ≡ true
  pub few : s.market.accepted < 100000
  pub fit : (lots_fit ((s.rows buyer).lots c +ℤ n) ≡ true) × (lots_fit ((s.rows seller).lots c -ℤ n) ≡ true)

pub may-trade : (w : Meaning) (s : State) (buyer seller c : ℕ) (n p : ℤ) → refusal w s (Trade buyer seller c n p) ≡ None → MayTrade w s buyer seller c n p
may-trade w s buyer seller c n p q =
    let q1 = ask-none (known s buyer && known s seller) _ _ q in
    let q2 = ask-none (not (eqb buyer seller)) _ _ q1.1 in
    let q3 = ask-none (tradable (class_on w s.market c)) _ _ q2.1 in
    let q4 = ask-none (within (pos 1) (pos 1000) n) _ _ q3.1 in
    let q5 = ask-none (price_fits p) _ _ q4.1 in
    let q6 = ask-none (ltb s.market.accepted 100000) _ _ q5.1 in
    let q7 = ask-none (lots_fit ((s.rows buyer).lots c +ℤ n) && lots_fit ((s.rows seller).lots c -ℤ n)) _ _ q6.1 in
    let both = and_parts (known s buyer) (known s seller) q1.0 in
    record {
      buys = ltb-true buyer s.made.accounts both.0;
      sells = ltb-true seller s.made.accounts both.1;
      apart = q2.0;
      opened = q3.0;
      lots = q4.0;
      price = q5.0;
      few = ltb-true s.market.accepted 100000 q6.0;
      fit = and_parts (lots_fit ((s.rows buyer).lots c +ℤ n)) (lots_fit ((s.rows seller).lots c -ℤ n)) q7.0;
    }

pub settle-priced : (w : Meaning) (s : State) (f : ℤ) (room : ℕ) → refusal w s (Settle f room) ≡ None → s.market.last w.settling ≡ None → ⊥
settle-priced w s f room q =
    given-some (s.market.last w.settling) (ask-none (is_some (s.market.last w.settling)) _ _ (ask-none (leb s.made.accounts room) _ _ q).1).0

-- ---- the row and its story

one-more : (b : Bool) (x y r : ℤ) → x *ℤ if_z b y +ℤ r ≡ r +ℤ if_z b (x *ℤ y)
one-more true x y r = omega (arith, ints)
one-more false x y r = omega (arith, ints, *ℤ-zero x)

one-times : (x : ℤ) → x *ℤ pos 1 ≡ x
one-times x = omega (arith, ints)

no-more : (x r : ℤ) → x *ℤ pos 0 +ℤ r ≡ r
no-more x r = omega (arith, ints, *ℤ-zero x)

bought : (c : ℕ) (p x : ℤ) (r : Row) → more x (one_lot c p) r ≡ row_traded c p x r
bought c p x r = λ i. record {
  lots = λ j. (one-more (eqb j c) x (pos 1) (r.lots j) ∙ ap (λ v. r.lots j +ℤ if_z (eqb j c) v) (one-times x)) i;
  traded = λ j. (one-more (eqb j c) x (pos 1) (r.traded j) ∙ ap (λ v. r.traded j +ℤ if_z (eqb j c) v) (one-times x)) i;
  cost = λ j. one-more (eqb j c) x p (r.cost j) i;
  cash = no-more x r.cash i;
}

-- what history tells of an account
abbrev pub story_of : Figures → ℕ → Story
story_of F a = record { net = F.net a; costs = F.costs a; booked = F.booked a }

cost-more : (x q p c : ℤ) → x *ℤ (q *ℤ p) +ℤ c ≡ c +ℤ q *ℤ (x *ℤ p)
cost-more x q p c = omega (arith, ints, sym (*ℤ-assoc x q p) ∙ ap (λ v. v *ℤ p) (*ℤ_comm x q) ∙ *ℤ-assoc q x p)

story-more : (w : Meaning) (k : Market) (c : ℕ) (p : ℤ) (F : Figures) (a buyer seller : ℕ) (n : ℤ) → more_story (share buyer seller n a) (record { net = λ m. if_z (has (class_on w k c) m) (pos 1); costs = pos (quantity_on w k c) *ℤ p; booked = pos 0 }) (story_of F a) ≡ story_of (told w k.day F (Trade buyer seller c n p)) a
story-more w k c p F a buyer seller n =
    let x = share buyer seller n a in
    λ i. record {
      net = λ m. (one-more (has (class_on w k c) m) x (pos 1) (F.net a m) ∙ ap (λ v. F.net a m +ℤ if_z (has (class_on w k c) m) v) (one-times x)) i;
      costs = cost-more x (pos (quantity_on w k c)) p (F.costs a) i;
      booked = no-more x (F.booked a) i;
    }

-- the count of trades, the day's prices and the repricings do not count
pub still : (w : Meaning) (k : Market) (final : ℕ → Option ℤ) (F : Story) (r : Row) (t p : ℕ → Option ℤ) (n : ℕ) → Kept w k final F r → Kept w (record k { accepted = n; today = t; repriced = p }) final F r
still w k final F r t p n s = record { idle = s.idle; unpriced = s.unpriced; costs-are = s.costs-are; open-held = s.open-held; value = s.value }

pub trade-kept : (w : Meaning) → Laws w → (k : Market) (F : Figures) → Open w k F.final → (buyer seller c : ℕ) (n p : ℤ) → tradable (class_on w k c) ≡ true → (a : ℕ) (r : Row) → Kept w k F.final (story_of F a) r → Kept w (record k { accepted = k.accepted + 1 }) F.final (story_of (told w k.day F (Trade buyer seller c n p)) a) (row_traded c p (share buyer seller n a) r)
trade-kept w law k F o buyer seller c n p opened a r s =
    let x = share buyer seller n a in
    still w k F.final _ _ k.today k.repriced (k.accepted + 1)
    (subst (λ r. Kept w k F.final (story_of (told w k.day F (Trade buyer seller c n p)) a) r) (bought c p x r)
    (subst (λ G. Kept w k F.final G (more x (one_lot c p) r)) (story-more w k c p F a buyer seller n)
    (kept-more w k F.final x (lot_story w law k F.final o c p) (story_of F a) (one_lot c p) r (kept-lot w law k F.final o c p opened) s)))
