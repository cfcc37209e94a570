-- A table read off terms tells of the same day as the terms. Assumes nothing.
use Rattle.std.proofs.Common.{◌≡◌, ℕ, ◌<◌, ◌≤◌, Bool, true, false, ◌&&◌, get_or, map, is_some, Some, None, Option, sym, refl, ap, ◌∙◌, ⊎_elim, arith}
use Rattle.std.proofs.Math.Bool.{and-false}
use Rattle.std.proofs.lemmas.Bool.{cases_lt, le-ltb, false≢true}
use Rattle.std.proofs.lemmas.List.{get_or_past}
use Rattle.std.proofs.lemmas.List.FromFn.{get_or-map-range_with_len}
use Rattle.std.specs.List.{range_with_len}
use Rattle.terms.proofs.ClassQuantities.{class-sum, no-quantity, run-most}
use Rattle.terms.proofs.Handovers.{any_at}
use Rattle.terms.proofs.Ranges.{all-each, none_each}
use Rattle.terms.proofs.Sources.{some-none, names-true, source_is, source-here}
use Rattle.terms.specs.Day.{day_of, source_below}
use Rattle.terms.specs.Laws.{Laws, names}
use Rattle.terms.specs.Meaning.{Meaning, answers, tradable, is_part, has_some_part, successor, class_quantity}
use Rattle.terms.specs.declared.class_terms.ClassTerms.{ClassTerms}
use Rattle.day_table.specs.Table.{day_in, table_of}
use Rattle.day_table.specs.declared.table.DayTable.{DayTable}

none-given : {A : Type 0} (o : Option A) → is_some o ≡ false → o ≡ None
none-given None e = refl
none-given (Some x) e = absurd (false≢true (sym e))

-- no class has a quantity above 8,940
most : (w : Meaning) → Laws w → (d c : ℕ) (o : Option ClassTerms) → w.on d c ≡ o → class_quantity w o ≤ 8940
most w law d c None e = omega (arith, no-quantity w)
most w law d c (Some t) e =
    let r = law.ranges d c t e in
    omega (arith, class-sum w t r.last, r.few, run-most w.quantity t.months.count t.months.first r.last (λ m l. (law.quantities m l).1))

module _ (w : Meaning) (law : Laws w) (d : ℕ) where
  -- there is no class past the last
  past-none : (c : ℕ) → w.classes ≤ c → w.on d c ≡ None
  past-none c h = none-given (w.on d c) (law.answered d c ∙ ap (λ b. answers w d && b) (le-ltb c w.classes h) ∙ and-false (answers w d))

  -- a column at any place, where it is z for no class
  at-place : {A : Type 0} (f : Option ClassTerms → A) (z : A) → f None ≡ z → (c : ℕ) → get_or (map (λ c. f (w.on d c)) (range_with_len 0 12)) c z ≡ f (w.on d c)
  at-place f z none c =
      ⊎_elim
      (λ (h : c < 12). get_or-map-range_with_len (λ c. f (w.on d c)) 0 12 c c z h (omega arith))
      (λ (h : 12 ≤ c). get_or_past (map (λ c. f (w.on d c)) (range_with_len 0 12)) c z h ∙ sym none ∙ ap f (sym (past-none c (omega (arith, law.twelve)))))
      (cases_lt c 12)

  pub table-day : day_in (table_of w d) ≡ day_of w d
  unfolding table_of
  table-day = λ i. record {
    day = d;
    classes = w.classes;
    settling = w.settling;
    quantity = λ c. at-place (class_quantity w) 0 (no-quantity w) c i;
    tradable = λ c. at-place tradable false refl c i;
    part = λ c p. is_part (at-place (λ o. o) None refl c i) p;
    whole = λ c. at-place has_some_part false refl c i;
    source = λ t. source_below (λ c. successor (at-place (λ o. o) None refl c i)) t w.classes;
    taken_over = (day_of w d).taken_over;
    next = (day_of w d).next;
  }

  -- a table that was read off terms
  pub read-day : (t : DayTable) → t ≡ table_of w d → day_in t ≡ day_of w d
  read-day t e = ap day_in e ∙ table-day

  pub quantity-most : (c : ℕ) → (day_of w d).quantity c ≤ 8940
  quantity-most c = most w law d c (w.on d c) refl

  -- ---- a day on which no class has parts

  no-whole : (table_of w d).some_parts ≡ false → (c : ℕ) → has_some_part (w.on d c) ≡ false
  unfolding table_of
  no-whole e c =
      ⊎_elim
      (λ (h : c < w.classes). none_each w.classes (λ c. has_some_part (w.on d c)) e c h)
      (λ (h : w.classes ≤ c). ap has_some_part (past-none c h))
      (cases_lt c w.classes)

  no-part : (c p : ℕ) → has_some_part (w.on d c) ≡ false → (b : Bool) → is_part (w.on d c) p ≡ b → b ≡ false
  no-part c p none false e = refl
  no-part c p none true e = absurd (false≢true (sym none ∙ any_at 12 (is_part (w.on d c)) p (go (w.on d c) refl e) e))
    where
      go : (o : Option ClassTerms) → w.on d c ≡ o → is_part o p ≡ true → p < 12
      go None q y = absurd (false≢true y)
      go (Some t) q y = omega (arith, law.twelve, (law.ranges d c t q).parts p y)

  pub no-parts : (table_of w d).some_parts ≡ false → (c p : ℕ) → ((day_of w d).whole c ≡ false) × ((day_of w d).part c p ≡ false)
  no-parts e c p =
      let none = no-whole e c in
      (none, no-part c p none (is_part (w.on d c) p) refl)

  -- ---- the class that a class succeeds

  abbrev next : ℕ → Option ℕ
  next c = successor (w.on d c)

  stays : (table_of w d).all_stay ≡ true → (t : ℕ) → t < w.classes → next t ≡ Some t
  unfolding table_of
  stays e t h = names-true (next t) t (all-each w.classes (λ c. names (next c) c) e t h)

  pub all-stay : (table_of w d).all_stay ≡ true → (t : ℕ) → t < w.classes → (day_of w d).source t ≡ Some t
  all-stay e t h =
      let s = stays e t h in
      source-here next t w.classes t h (λ c q. law.apart d t c t s q) s

  pub source-known : (t c : ℕ) → (day_of w d).source t ≡ Some c → c < w.classes
  source-known t c e = (source_is next t w.classes c e).0

  successor-below : (c s : ℕ) → next c ≡ Some s → s < w.classes
  successor-below c s e = go (w.on d c) refl e
    where
      go : (o : Option ClassTerms) → w.on d c ≡ o → successor o ≡ Some s → s < w.classes
      go None q y = absurd (some-none None s y refl)
      go (Some t) q y = (law.ranges d c t q).next s y

  pub source-past : (t : ℕ) → w.classes ≤ t → (day_of w d).source t ≡ None
  source-past t h = go ((day_of w d).source t) refl
    where
      go : (o : Option ℕ) → (day_of w d).source t ≡ o → o ≡ None
      go None e = refl
      go (Some c) e = absurd (omega (arith, successor-below c t (source_is next t w.classes c e).1))
