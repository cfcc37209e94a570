-- What is read off a table of a day. Assumes nothing.
use Rattle.std.proofs.Common.{◌≡◌, ℕ, zero, suc, min, ◌<◌, ◌≤◌, Bool, false, cond, List, length, get_or, map, Some, None, Option, sym, ap, ◌∙◌, ⊎_elim, arith}
use Rattle.std.proofs.lemmas.List.FromFn.{get_or-map-range_with_len, fill_by_all}
use Rattle.std.specs.List.{range_with_len}
use Rattle.std.proofs.lemmas.Bool.{cases_eq, cases_lt, cond-false}
use Rattle.std.proofs.lemmas.List.{get_or_past}
use Rattle.calendars.specs.Walks.{next_after}
use Rattle.terms.proofs.Ranges.{any_same, all_same}
use Rattle.terms.specs.Day.{source_below}
use Rattle.terms.specs.Laws.{Laws, names, is_taken_over}
use Rattle.terms.specs.Meaning.{Meaning, months_of, in_months, sum_below, class_quantity, any_below, all_below, tradable, has_some_part, successor}
use Rattle.terms.specs.declared.class_terms.ClassTerms.{ClassTerms}
use Rattle.day_table.specs.Table.{class_at, class_in, day_in, table_of, classes_of, quantities_of}
use Rattle.day_table.specs.declared.table.DayTable.{DayTable}

-- classes that have the same months have the same quantity
pub same-quantity : (w : Meaning) (t u : Option ClassTerms) → months_of t ≡ months_of u → class_quantity w t ≡ class_quantity w u
unfolding class_quantity
same-quantity w t u e = ap (λ m. sum_below 1200 (λ k. cond (in_months m k) (w.quantity k) 0)) e

-- what stands in the table of a day
pub class-at : (w : Meaning) (d c : ℕ) (ks : List (Option ClassTerms)) → ks ≡ classes_of w d → c < 12 → get_or ks c None ≡ w.on d c
class-at w d c ks e h = ap (λ l. get_or l c None) e ∙ get_or-map-range_with_len (w.on d) 0 12 c c None h (omega arith)

pub quantity-at : (w : Meaning) (d c : ℕ) (qs : List ℕ) → qs ≡ quantities_of w d → c < 12 → get_or qs c 0 ≡ class_quantity w (w.on d c)
quantity-at w d c qs e h = ap (λ l. get_or l c 0) e ∙ get_or-map-range_with_len (λ c. class_quantity w (w.on d c)) 0 12 c c 0 h (omega arith)

pub day-classes : (w : Meaning) (k : DayTable) (d : ℕ) → k ≡ table_of w d → k.table ≡ classes_of w d
unfolding table_of
day-classes w k d e = ap (λ (k : DayTable). k.table) e

pub day-quantities : (w : Meaning) (k : DayTable) (d : ℕ) → k ≡ table_of w d → k.quantity ≡ quantities_of w d
unfolding table_of
day-quantities w k d e = ap (λ (k : DayTable). k.quantity) e

pub day-number : (w : Meaning) (k : DayTable) (d : ℕ) → k ≡ table_of w d → k.day ≡ d
unfolding table_of
day-number w k d e = ap (λ (k : DayTable). k.day) e

pub day-again : (w : Meaning) (k : DayTable) (d : ℕ) → k ≡ table_of w d → k ≡ table_of w k.day
day-again w k d e = e ∙ ap (table_of w) (sym (day-number w k d e))

-- what is read off the classes of a day is what the terms say
pub column : {A : Type 0} (w : Meaning) (d : ℕ) (ks : List (Option ClassTerms)) (f : Option ClassTerms → A) → ks ≡ classes_of w d → map (λ c. f (class_at ks c)) (range_with_len 0 12) ≡ map (λ c. f (w.on d c)) (range_with_len 0 12)
column w d ks f e = ap (λ (ks : List (Option ClassTerms)). map (λ c. f (class_at ks c)) (range_with_len 0 12)) e

module _ (w : Meaning) (law : Laws w) (d : ℕ) (ks : List (Option ClassTerms)) (f : ℕ → Option ClassTerms → Bool) (e : ks ≡ classes_of w d) where
  pub some-class : any_below w.classes (λ c. f c (class_at ks c)) ≡ any_below w.classes (λ c. f c (w.on d c))
  some-class = any_same w.classes (λ c. f c (class_at ks c)) (λ c. f c (w.on d c)) (λ c h. ap (f c) (class-at w d c ks e (omega (arith, law.twelve))))

  pub some-flag : (ws : List Bool) → ws ≡ map (λ c. f c (w.on d c)) (range_with_len 0 12) → any_below w.classes (λ c. get_or ws c false) ≡ any_below w.classes (λ c. f c (w.on d c))
  some-flag ws r = any_same w.classes (λ c. get_or ws c false) (λ c. f c (w.on d c)) (λ c h. ap (λ l. get_or l c false) r ∙ get_or-map-range_with_len (λ c. f c (w.on d c)) 0 12 c c false (omega (arith, law.twelve)) (omega arith))

  pub each-class : all_below w.classes (λ c. f c (class_at ks c)) ≡ all_below w.classes (λ c. f c (w.on d c))
  each-class = all_same w.classes (λ c. f c (class_at ks c)) (λ c. f c (w.on d c)) (λ c h. ap (f c) (class-at w d c ks e (omega (arith, law.twelve))))

-- a table that says so, column by column
pub told : (w : Meaning) (d : ℕ) (k : DayTable) → k.day ≡ d → k.classes ≡ w.classes → k.settling ≡ w.settling → k.table ≡ classes_of w d → k.tradable ≡ map (λ c. tradable (w.on d c)) (range_with_len 0 12) → k.quantity ≡ quantities_of w d → k.whole ≡ map (λ c. has_some_part (w.on d c)) (range_with_len 0 12) → k.some_parts ≡ any_below w.classes (λ c. has_some_part (w.on d c)) → k.all_stay ≡ all_below w.classes (λ c. names (successor (w.on d c)) c) → k.taken_over ≡ is_taken_over w d → k.next ≡ next_after w.opens d → k ≡ table_of w d
unfolding table_of
told w d k day classes settling table tradable quantity whole some_parts all_stay taken_over next = λ i. record {
  day = day i;
  classes = classes i;
  settling = settling i;
  table = table i;
  tradable = tradable i;
  quantity = quantity i;
  whole = whole i;
  some_parts = some_parts i;
  all_stay = all_stay i;
  taken_over = taken_over i;
  next = next i;
}

-- ---- the class that a class succeeds

-- past the last class nothing is succeeded
pub source-most : (next : ℕ → Option ℕ) (t m n : ℕ) → m ≤ n → ((c : ℕ) → m ≤ c → next c ≡ None) → source_below next t n ≡ source_below next t m
source-most next t m zero h none = let e : 0 ≡ m = omega arith in ap (source_below next t) e
source-most next t m (suc n) h none =
    ⊎_elim
    (λ (e : m ≡ suc n). ap (source_below next t) (sym e))
    (λ (ne : m ≡ suc n → ⊥).
    cond-false (names (next n) t) (Some n) (source_below next t n) (ap (λ (o : Option ℕ). names o t) (none n (omega arith)))
    ∙ source-most next t m n (omega arith) none)
    (cases_eq m (suc n))

none-past : (t : DayTable) → length t.table ≡ 12 → (c : ℕ) → 12 ≤ c → successor (class_in t c) ≡ None
none-past t long c h = ap successor (get_or_past t.table c None (omega arith))

pub sources-end : (t : DayTable) (xs : List (Option ℕ)) (n : ℕ) → length t.table ≡ 12 → n ≡ min t.classes 12 → length xs ≡ 12 → ((s : ℕ) → s < 12 → get_or xs s None ≡ source_below (λ c. successor (class_in t c)) s n) → xs ≡ map (day_in t).source (range_with_len 0 12)
sources-end t xs n long e lx h = fill_by_all (day_in t).source xs 12 None lx (λ s l. h s l ∙ all s)
  where
    all : (s : ℕ) → source_below (λ c. successor (class_in t c)) s n ≡ source_below (λ c. successor (class_in t c)) s t.classes
    all s =
        ⊎_elim
        (λ (k : t.classes < 12). let f : n ≡ t.classes = omega arith in ap (source_below (λ c. successor (class_in t c)) s) f)
        (λ (k : 12 ≤ t.classes). sym (source-most (λ c. successor (class_in t c)) s n t.classes (omega arith) (λ c l. none-past t long c (omega arith))))
        (cases_lt t.classes 12)
