-- Power keeps the laws of terms, over every calendar. Assumes nothing.
use Rattle.std.specs.Prelude.{◌≡◌, ℕ, ◌+◌, ◌-◌, ◌*◌, ◌/◌, ◌%◌, ◌<◌, ◌≤◌, Bool, true, false, cond, not, ◌&&◌, List, length, get_or, Some, None, Option, ◌==◌, ◌≢◌, nat_le, nat_lt, slice_index_or, refl}
use Rattle.std.proofs.Common.{sym, ap, subst, ◌∙◌, ⊎_elim, add-zero, arith}
use Rattle.std.proofs.lemmas.Bool.{cases_eq, cases_lt, eqb-true, ne_eqb, lt-ltb, le-ltb, ltb-true, false≢true, not-true, and_parts, and_right, cond_both}
use Rattle.std.proofs.lemmas.List.{get_or_past}
use Rattle.std.proofs.lemmas.Option.{none-some}
use Rattle.std.proofs.lemmas.Bool.Decides.{nat_tests}
use Rattle.calendars.specs.Calendars.{Lawful}
use Rattle.dates.specs.Dates.{month_of}
use Rattle.power.specs.Periods.{Left, left-of, own-next}
use Rattle.power.specs.Tables.{chain_fits, by_length, room, behind, last-in-chain, by_parts, fine, year-part-fine, quarter-part-fine}
use Rattle.power.specs.Classes.{length_of, place_of, earlier, no_parts, quarter_parts, year_parts, cascade, chain}
use Rattle.power.specs.Hours.{Bounded}
use Rattle.power.specs.Power.{left_of, own, turns, power_class, power}
use Rattle.terms.proofs.Chains.{moved, apart}
use Rattle.terms.proofs.Listings.{no_part, answered-month, Kept, laws}
use Rattle.terms.specs.Chain.{moves_up}
use Rattle.terms.specs.Laws.{Laws, names}
use Rattle.terms.specs.Meaning.{sum_below, any_below, one, in_months}
use Rattle.terms.specs.declared.class_terms.Months.{Months}

-- a set of classes has one, and how many it has
abbrev some : List Bool → Bool
some ps = any_below 12 (λ p. get_or ps p false)

one-most : (b : Bool) → one b ≤ 1
one-most true = omega arith
one-most false = omega arith

-- the first month of a class, from its own period
abbrev Inside : ℕ → Type 0
Inside k = (m p : ℕ) (b : Bool) → 12 ≤ m → m < 1164 → k * (1163 / k + 1 + p) ≤ 1200 → k * (m / k + one b + p - 1) + k ≤ 1200

inside : (c : ℕ) → c < 11 → Inside (length_of c)
inside =
    by_length Inside (λ m p b l h r. omega (arith, one-most b)) (λ m p b l h r. omega (arith, one-most b)) (λ m p b l h r. omega (arith, one-most b))

abbrev Later : ℕ → Type 0
Later k = (m p : ℕ) (b : Bool) → cond (k == 1) 1 2 ≤ p → m ≤ k * (m / k + one b + p - 1)

later : (c : ℕ) → c < 11 → Later (length_of c)
later = by_length Later (λ m p b h. omega arith) (λ m p b h. omega arith) (λ m p b h. omega arith)

lengths : (c : ℕ) → c < 11 → (1 ≤ length_of c) × (length_of c ≤ 12)
lengths = by_length (λ k. (1 ≤ k) × (k ≤ 12)) (omega arith) (omega arith) (omega arith)

-- which class hands over to the settling class: D01, on a month's last open day
taken : (t : ℕ → Bool) → any_below 11 (λ c. not (c == 10) && names (moves_up (t (length_of c)) (earlier c) c) 10) ≡ t 1
taken t = go (t 1) (t 3) (t 12)
  where
    go : (a b e : Bool) → any_below 11 (λ c. not (c == 10) && names (moves_up (cond (length_of c == 1) a (cond (length_of c == 3) b e)) (earlier c) c) 10) ≡ a
    go true true true = refl
    go true true false = refl
    go true false true = refl
    go true false false = refl
    go false true true = refl
    go false true false = refl
    go false false true = refl
    go false false false = refl

-- runs of months, end to end
abbrev within : ℕ → ℕ → ℕ → ℕ
within a n x = one (nat_le a x && nat_lt x (a + n))

quarter-tiles : (m o x : ℕ) → m % 3 ≡ 2 → o ≡ m / 3 → within (1 * (m / 1 + 0 + 2 - 1)) 1 x + within (1 * (m / 1 + 0 + 3 - 1)) 1 x + within (1 * (m / 1 + 0 + 4 - 1)) 1 x ≡ within (3 * (o + 2 - 1)) 3 x
quarter-tiles m o x h e = rw e (grind (arith, nat_tests))

year-tiles : (m o y x : ℕ) → m % 12 ≡ 11 → o ≡ m / 3 → y ≡ m / 12 → within (1 * (m / 1 + 0 + 2 - 1)) 1 x + within (1 * (m / 1 + 0 + 3 - 1)) 1 x + within (1 * (m / 1 + 0 + 4 - 1)) 1 x + within (3 * (o + 3 - 1)) 3 x + within (3 * (o + 4 - 1)) 3 x + within (3 * (o + 5 - 1)) 3 x ≡ within (12 * (y + 2 - 1)) 12 x
year-tiles m o y x h e i = rw (e, i) (grind (arith, nat_tests))

-- a class whose number a set has is one of the classes
below : (ps : List Bool) → length ps ≡ 12 → slice_index_or ps 11 false ≡ false → (p : ℕ) → slice_index_or ps p false ≡ true → p < 11
below ps w z p e =
    ⊎_elim (λ l. l) (λ l. absurd (false≢true (sym (⊎_elim (λ (q : p ≡ 11). ap (λ i. get_or ps i false) q ∙ z) (λ q. get_or_past ps p false (omega arith)) (cases_eq p 11)) ∙ e))) (cases_lt p 11)

-- a class that cascades is tradable and hands over to none
cascades : (turning second : Bool) (n c : ℕ) → cond (n == 8) second (nat_lt n 9) ≡ true → earlier n ≡ None → turning ≡ true → c ≡ n → (cond (c == 8) second (nat_lt c 9) ≡ true) × (moves_up turning (earlier c) c ≡ None)
cascades turning second n c t z on e =
    subst (λ (c : ℕ). (cond (c == 8) second (nat_lt c 9) ≡ true) × (moves_up turning (earlier c) c ≡ None)) (sym e) (t, ap (λ (b : Bool). moves_up b (earlier n) n) on ∙ z)

fine-part : (turning second : Bool) (p : ℕ) → fine p ≡ true → (cond (p == 8) second (nat_lt p 9) ≡ true) × (some (cond turning (cascade p) no_parts) ≡ false)
fine-part turning second p e =
    let a = and_parts (nat_lt p 8 && not (p == 3)) (not (p == 7)) e in
    let b = and_parts (nat_lt p 8) (not (p == 3)) a.0 in
    let l = ltb-true p 8 b.0 in
    (rw (ne_eqb p 8 (λ q. omega arith)) (lt-ltb p 9 (omega arith)), rw (not-true _ b.1, not-true _ a.1) (either turning))
  where
    either : (b : Bool) → some (cond b no_parts no_parts) ≡ false
    either true = refl
    either false = refl

lasts : (turning : Bool) (c : ℕ) → c < 11 → (c ≢ 10) → some (cond turning (cascade c) no_parts) ≡ false → moves_up turning (earlier c) c ≢ None
lasts false c h ne p e = none-some c (sym e)
lasts true c h ne p e =
    ⊎_elim (λ q. false≢true (sym (subst (λ (n : ℕ). some (cascade n) ≡ false) q p))) (λ q. false≢true (sym (subst (λ (n : ℕ). some (cascade n) ≡ false) q p))) (last-in-chain c h e ne)

-- on the day on which a quarter or a year turns, its own period has not moved on yet, and the month is its last
not-moved : (k m l : ℕ) → l ≡ 3 → m / k + one (not (k == 1) && nat_lt l 3) ≡ m / k
not-moved k m l e = rw (le-ltb l 3 (omega arith), and_right (not (k == 1)) false refl) (add-zero (m / k))

turned : (k m p l : ℕ) → Left k m p l → (p == 3) ≡ true → (m % k ≡ k - 1) × (m / k + one (not (k == 1) && nat_lt p 3) ≡ m / k)
turned k m p l t e =
    let three = eqb-true p 3 e in
    (⊎_elim (λ q. q) (λ n. absurd (omega (arith, t.more n))) (cases_eq (m % k) (k - 1)), not-moved k m p three)

module _ (f : ℕ → Bool) (law : Lawful f) (second : Bool) where
  abbrev months : ℕ → ℕ → Option Months
  months d c = Some (power_class f second d c).months

  cover-quarter : (d x : ℕ) → month_of d < 1200 → turns f 3 d ≡ true → sum_below 11 (λ p. one (slice_index_or quarter_parts p false && in_months (months d p) x)) ≡ one (in_months (months d 3) x)
  cover-quarter d x h t =
      let z = turned 3 (month_of d) _ _ (left-of f law d h 3 (omega arith)) t in
      omega (arith, quarter-tiles (month_of d) (own f 3 d) x z.0 z.1)

  cover-year : (d x : ℕ) → month_of d < 1200 → turns f 12 d ≡ true → sum_below 11 (λ p. one (slice_index_or year_parts p false && in_months (months d p) x)) ≡ one (in_months (months d 7) x)
  cover-year d x h t =
      let z = turned 12 (month_of d) _ _ (left-of f law d h 7 (omega arith)) t in
      let q = left-of f law d h 3 (omega arith) in
      let three : left_of f 3 d ≡ 3 = q.last (omega (arith, z.0)) ∙ sym ((left-of f law d h 7 (omega arith)).last z.0) ∙ eqb-true _ 3 t in
      omega (arith, year-tiles (month_of d) (own f 3 d) (own f 12 d) x z.0 (not-moved 3 (month_of d) _ three) z.1)

  pub kept : (q : ℕ → ℕ) → Bounded q → Kept f 11 10 q (power_class f second)
  kept q bounded = record {
    two = omega arith;
    twelve = omega arith;
    settles = omega arith;
    calendar = law;
    quantities = bounded;
    ranges = λ d c a h.
        let m = answered-month f d a in
        record {
          some = (lengths c h).0;
          few = (lengths c h).1;
          last = inside c h (month_of d) (place_of c) (not (length_of c == 1) && nat_lt (left_of f (length_of c) d) 3) m.0 m.1 (room c h);
          interval = cond_both (c == 0 && nat_le (left_of f 1 d) 1) 9 c (λ n. n < 11) (λ _. omega arith) (λ _. h);
          width = by_parts (λ ps. length ps ≡ 12) (turns f (length_of c) d) c refl (λ _ _. refl) (λ _ _. refl);
          parts = by_parts (λ ps. (p : ℕ) → slice_index_or ps p false ≡ true → p < 11) (turns f (length_of c) d) c (below no_parts refl refl) (λ _ _. below quarter_parts refl refl) (λ _ _. below year_parts refl refl);
          six = by_parts (λ ps. sum_below 12 (λ p. one (slice_index_or ps p false)) ≤ 6) (turns f (length_of c) d) c (omega arith) (λ _ _. omega arith) (λ _ _. omega arith);
          next = λ s e. (moved chain chain_fits (λ _. 0) (λ k. one (turns f k d)) (λ k. turns f k d) c s h (omega arith) e).0;
        };
    whole = λ d c a h e.
        by_parts (λ ps. some ps ≡ true → (cond (c == 8) second (nat_lt c 9) ≡ true) × (moves_up (turns f (length_of c) d) (earlier c) c ≡ None)) (turns f (length_of c) d) c (λ z. absurd (false≢true z)) (λ t n _. cascades _ second 3 c refl refl t n) (λ t n _. cascades _ second 7 c refl refl t n) e;
    part = λ d c p a h l e.
        fine-part (turns f (length_of p) d) second p (by_parts (λ ps. slice_index_or ps p false ≡ true → fine p ≡ true) (turns f (length_of c) d) c (λ z. absurd (no_part 12 p z)) (λ _ _. quarter-part-fine p l) (λ _ _. year-part-fine p l) e);
    cover = λ d c x a h e.
        let m = answered-month f d a in
        by_parts (λ ps. some ps ≡ true → sum_below 11 (λ p. one (slice_index_or ps p false && in_months (months d p) x)) ≡ one (in_months (months d c) x)) (turns f (length_of c) d) c (λ z. absurd (false≢true z))
        (λ t n _. subst (λ (c : ℕ). turns f (length_of c) d ≡ true → sum_below 11 (λ p. one (slice_index_or quarter_parts p false && in_months (months d p) x)) ≡ one (in_months (months d c) x)) (sym n) (cover-quarter d x (omega arith)) t)
        (λ t n _. subst (λ (c : ℕ). turns f (length_of c) d ≡ true → sum_below 11 (λ p. one (slice_index_or year_parts p false && in_months (months d p) x)) ≡ one (in_months (months d c) x)) (sym n) (cover-year d x (omega arith)) t) e;
    lasting = λ d c a h ne. lasts (turns f (length_of c) d) c h ne;
    same = λ d c s e a h t n l.
        let m = answered-month f d a in
        let r = answered-month f e (record { from = omega (arith, a.from, n.after); to = l; opened = n.inside }) in
        let z = moved chain chain_fits (λ k. own f k d) (λ k. own f k e) (λ k. turns f k d) c s h (own-next f law d e c h n (omega arith) (omega arith)) t in
        let first : length_of s * (own f (length_of s) e + place_of s - 1) ≡ length_of c * (own f (length_of c) d + place_of c - 1) = ap (λ k. k * (own f (length_of s) e + place_of s - 1)) z.1 ∙ ap (λ n. length_of c * (n - 1)) z.2 in
        λ i. record { first = first i; count = z.1 i };
    stays = λ d a. ap (λ (b : Bool). cond b None (Some 10)) (sym (taken (λ k. turns f k d)));
    apart = λ d c e s a h l p q. apart chain chain_fits (λ k. turns f k d) c e s h l p q;
    untraded = λ d a. refl;
    later = λ d c a h ne.
        let m = answered-month f d a in
        let r = later c h (month_of d) (place_of c) (not (length_of c == 1) && nat_lt (left_of f (length_of c) d) 3) (behind c h ne) in
        omega (arith, r);
  }

pub power-laws : (f : ℕ → Bool) (q : ℕ → ℕ) (second : Bool) → Lawful f → Bounded q → Laws (power f q second)
power-laws f q second law bounded = laws f 11 10 q (power_class f second) (kept f law second q bounded)
