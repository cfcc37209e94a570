-- What lots are worth at a price, and the payments as differences of worth. Assumes nothing.
use Rattle.std.proofs.Common.{◌≡◌, ℕ, Bool, true, false, cond, ℤ, pos, ◌+ℤ◌, ◌-ℤ◌, ◌*ℤ◌, sym, refl, ap, ◌∙◌, arith}
use lib.IntN.{*ℤ-zero, zero-*ℤ, *ℤ_comm}
use Rattle.amounts.proofs.Ring.{*ℤ-left-distrib, *ℤ-left-sub, *ℤ-assoc}
use Rattle.amounts.proofs.Sums.{sum_same, sum-sub, sum_left, sum-right, if-times}
use Rattle.amounts.specs.Amounts.{variation, part_payment, final_payment}
use Rattle.amounts.specs.SumsOfWhole.{sum_z, if_z}
use Rattle.std.proofs.lemmas.Int.{ints}
use Rattle.terms.specs.Meaning.{sum_below}
use Rattle.ledger.proofs.Sums.{sum-pos}

-- lots × (quantity × price), and how the payments have it
turned : (x q p : ℤ) → x *ℤ (q *ℤ p) ≡ q *ℤ (p *ℤ x)
turned x q p = *ℤ_comm x (q *ℤ p) ∙ *ℤ-assoc q p x

paired : (x q p : ℤ) → x *ℤ (q *ℤ p) ≡ q *ℤ x *ℤ p
paired x q p = sym (*ℤ-assoc x q p) ∙ ap (λ v. v *ℤ p) (*ℤ_comm x q)

-- the worth of lots in a run of months, month by month
month-worth : (b : Bool) (q : ℕ) (x p : ℤ) → if_z b (x *ℤ (pos q *ℤ p)) ≡ x *ℤ (pos (cond b q 0) *ℤ p)
month-worth true q x p = refl
month-worth false q x p = sym (ap (λ v. x *ℤ v) (zero-*ℤ p) ∙ *ℤ-zero x)

pub months-worth : (n : ℕ) (b : ℕ → Bool) (q : ℕ → ℕ) (x p : ℤ) → sum_z n (λ m. if_z (b m) (x *ℤ (pos (q m) *ℤ p))) ≡ x *ℤ (pos (sum_below n (λ m. cond (b m) (q m) 0)) *ℤ p)
months-worth n b q x p =
    sum_same n _ (λ m. x *ℤ (pos (cond (b m) (q m) 0) *ℤ p)) (λ m l. month-worth (b m) (q m) x p)
    ∙ sum_left n x (λ m. pos (cond (b m) (q m) 0) *ℤ p)
    ∙ ap (λ v. x *ℤ v) (sum-right n (λ m. pos (cond (b m) (q m) 0)) p ∙ ap (λ v. v *ℤ p) (sum-pos n (λ m. cond (b m) (q m) 0)))

-- a final payment is what the lots gain in worth
pub final-paid : (q : ℕ) (x p r : ℤ) → final_payment q x p r ≡ x *ℤ (pos q *ℤ p) -ℤ x *ℤ (pos q *ℤ r)
final-paid q x p r = *ℤ-left-sub (pos q *ℤ x) p r ∙ sym (λ i. paired x (pos q) p i -ℤ paired x (pos q) r i)

-- and so are the payments for all parts together
part-paid : (b : Bool) (q : ℕ) (x p r : ℤ) → if_z b (x *ℤ (pos q *ℤ p)) -ℤ if_z b (pos q) *ℤ (x *ℤ r) ≡ if_z b (part_payment q x p r)
part-paid true q x p r = (λ i. paired x (pos q) p i -ℤ sym (*ℤ-assoc (pos q) x r) i) ∙ sym (*ℤ-left-sub (pos q *ℤ x) p r)
part-paid false q x p r = ap (λ v. pos 0 -ℤ v) (zero-*ℤ (x *ℤ r))

whole-worth : (b : Bool) (q x r : ℤ) → if_z b (x *ℤ (q *ℤ r)) ≡ if_z b q *ℤ (x *ℤ r)
whole-worth true q x r = paired x q r ∙ *ℤ-assoc q x r
whole-worth false q x r = sym (if-times false q (x *ℤ r))

pub parts-paid : (n : ℕ) (part : ℕ → Bool) (whole : Bool) (q : ℕ → ℕ) (P : ℕ → ℤ) (Q : ℕ) (R x : ℤ) → sum_z n (λ p. if_z (part p) (pos (q p))) ≡ if_z whole (pos Q) → sum_z n (λ p. if_z (part p) (x *ℤ (pos (q p) *ℤ P p))) -ℤ if_z whole (x *ℤ (pos Q *ℤ R)) ≡ sum_z n (λ p. if_z (part p) (part_payment (q p) x (P p) R))
parts-paid n part whole q P Q R x e =
    ap (λ v. sum_z n (λ p. if_z (part p) (x *ℤ (pos (q p) *ℤ P p))) -ℤ v)
    (whole-worth whole (pos Q) x R ∙ ap (λ v. v *ℤ (x *ℤ R)) (sym e) ∙ sym (sum-right n (λ p. if_z (part p) (pos (q p))) (x *ℤ R)))
    ∙ sym (sum-sub n (λ p. if_z (part p) (x *ℤ (pos (q p) *ℤ P p))) (λ p. if_z (part p) (pos (q p)) *ℤ (x *ℤ R)))
    ∙ sum_same n _ (λ p. if_z (part p) (part_payment (q p) x (P p) R)) (λ p l. part-paid (part p) (q p) x (P p) R)

-- What a class gains by the day: its worth at the last price before the day's trades, its variation margin and the day's
-- trades at cost come to its worth at the newest price.
regroup : (a b c : ℤ) → a ≡ b +ℤ (a -ℤ b -ℤ c) +ℤ c
regroup a b c = omega (arith, ints)

nothing-traded : (x u : ℤ) → u ≡ pos 0 → x ≡ x -ℤ u
nothing-traded x u e = omega (arith, ints)

nothing-paid : (x c : ℤ) → c ≡ pos 0 → x ≡ x +ℤ pos 0 +ℤ c
nothing-paid x c e = omega (arith, ints)

pub class-gain : (t : Bool) (q : ℕ) (p o x u c : ℤ) → (t ≡ false → (u ≡ pos 0) × (c ≡ pos 0)) → x *ℤ (pos q *ℤ cond t p o) ≡ (x -ℤ u) *ℤ (pos q *ℤ o) +ℤ if_z t (variation q p x o u c) +ℤ pos q *ℤ c
class-gain true q p o x u c h =
    turned x (pos q) p
    ∙ ap (λ z. pos q *ℤ z) (regroup (p *ℤ x) (o *ℤ (x -ℤ u)) c)
    ∙ *ℤ-left-distrib (pos q) (o *ℤ (x -ℤ u) +ℤ (p *ℤ x -ℤ o *ℤ (x -ℤ u) -ℤ c)) c
    ∙ ap (λ z. z +ℤ pos q *ℤ c) (*ℤ-left-distrib (pos q) (o *ℤ (x -ℤ u)) (p *ℤ x -ℤ o *ℤ (x -ℤ u) -ℤ c) ∙ ap (λ z. z +ℤ variation q p x o u c) (sym (turned (x -ℤ u) (pos q) o)))
class-gain false q p o x u c h =
    let g = h refl in
    ap (λ z. z *ℤ (pos q *ℤ o)) (nothing-traded x u g.0) ∙ nothing-paid ((x -ℤ u) *ℤ (pos q *ℤ o)) (pos q *ℤ c) (ap (λ y. pos q *ℤ y) g.1 ∙ *ℤ-zero (pos q))
