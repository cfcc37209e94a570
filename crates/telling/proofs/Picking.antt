-- The chain that picks the longest tradable class. Assumes nothing.
use Rattle.std.proofs.Common.{◌≡◌, ℕ, zero, suc, ◌+◌, ◌<◌, ◌≤◌, Bool, true, false, cond, List, Option, Some, None, IfSome, MatchOption, Bor, refl, sym, ap, ◌∙◌, subst, ⊎_elim, arith}
use denote.Param.Members.{Mut}
use mathlib.Core.List.{map-id}
use Rattle.std.proofs.iter.runs.Made.{took, at-is}
use Rattle.std.proofs.lemmas.Bool.{cases_eq}
use Rattle.std.proofs.lemmas.Option.{slice_get_within}
use Rattle.std.proofs.lemmas.Map.Keys.{le_from_not_gt}
use Rattle.std.proofs.lemmas.Iterator.{YieldsList, items_from_drains}
use Rattle.std.specs.Fn.{CalledAt}
use Rattle.std.specs.Iterator.Runs.{Run, AnyItem, NoKeyBeyond}
use Rattle.std.specs.List.{slice_get, filter_map, cons_option, range_with_len}
use Rattle.std.specs.Ordering.{nat_cmp, is_gt}
use Rattle.telling.specs.Longest.{NoneTradable, NoneLonger}
use Rattle.terms.specs.Meaning.{Meaning, tradable, months_of}
use Rattle.terms.specs.declared.class_terms.ClassTerms.{ClassTerms}
use Rattle.terms.specs.declared.class_terms.Months.{Months}

-- what a class gives the chain: itself and its months, if it is tradable
abbrev pub offered : ℕ → Option ClassTerms → Option (ℕ × Months)
offered c None = None
offered c (Some t) = cond t.tradable (Some (c, t.months)) None

-- the items of a run that came to its end
pub items-are : {S A : Type 0} {steps : S → Option A → S → Type 0} (p : Run steps) (s : S) (all : List A) → p.from ≡ s → p.whole ≡ true → YieldsList steps (λ x. x) s all → p.items ≡ all
items-are {steps = steps} p s all e w road =
    sym (map-id p.items) ∙ items_from_drains p.items ((took p).0, (took p).1, λ _. (took p).2 w) (subst (λ t. YieldsList steps (λ x. x) t all) (sym e) road)

-- a class of the range that offers an item stands in the list
pub listed : {A : Type 0} (h : ℕ → Option A) (a n c : ℕ) (y : A) → a ≤ c → c < a + n → h c ≡ Some y → (i : ℕ) × (slice_get (filter_map h (range_with_len a n)) i ≡ Some y)
listed h a zero c y l u e = absurd (omega arith)
listed {A} h a (suc n) c y l u e =
    ⊎_elim
    (λ (f : a ≡ c). (0, ap (λ o. slice_get (cons_option o later) 0) (ap h f ∙ e)))
    (λ (f : a ≡ c → ⊥). let r = listed h (a + 1) n c y (omega arith) (omega arith) e in behind (h a) r.0 r.1)
    (cases_eq a c)
  where
    later : List A
    later = filter_map h (range_with_len (a + 1) n)

    behind : (o : Option A) (i : ℕ) → slice_get later i ≡ Some y → (i : ℕ) × (slice_get (cons_option o later) i ≡ Some y)
    behind None i e = (i, e)
    behind (Some z) i e = (suc i, e)

-- no item of the run has a greater key than the one that was picked
pub greatest : {S A F : Type 0} {steps : S → Option A → S → Type 0} (p : Run steps) (g : Mut F (Bor A × Unit {0}) ℕ) (f : F) (key : A → ℕ) (m : A) → ((x : A) (k : ℕ) (q : F) → CalledAt g f x k q → (q ≡ f) × (k ≡ key x)) → NoKeyBeyond p g f is_gt nat_cmp m → (x : A) (i : ℕ) → slice_get p.items i ≡ Some x → key x ≤ key m
greatest {A} p g f key m calls beyond x i e =
    let worst = beyond (λ a k q h. (calls a.0.now k q (record { shown = a.0; shows = refl; called = h })).0) in
    let here = subst (λ o. IfSome o (λ z. (j : ℕ) × CalledAt g f z j f × (is_gt (nat_cmp j worst.0) ≡ false))) (at-is p i ∙ e) (worst.2 i) in
    let low = le_from_not_gt here.0 worst.0 here.2 in
    omega (arith, low, (calls x here.0 f here.1).1, (calls m worst.0 f worst.1).1)

-- what is said of the classes that offer an item is said of the tradable ones
none_offered : (c : ℕ) (t : Option ClassTerms) → ((y : ℕ × Months) → offered c t ≡ Some y → ⊥) → tradable t ≡ false
none_offered c None h = refl
none_offered c (Some t) h = by_test t.tradable h
  where
    by_test : (b : Bool) → ((y : ℕ × Months) → cond b (Some (c, t.months)) None ≡ Some y → ⊥) → b ≡ false
    by_test true k = absurd (k (c, t.months) refl)
    by_test false k = refl

none_longer : (c n : ℕ) (t : Option ClassTerms) → ((y : ℕ × Months) → offered c t ≡ Some y → y.1.count ≤ n) → tradable t ≡ true → IfSome (months_of t) (λ m. m.count ≤ n)
none_longer c n None h e = tt
none_longer c n (Some t) h e = h (c, t.months) (ap (λ b. cond b (Some (c, t.months)) None) e)

pub picks : {S F : Type 0} {steps : S → Option (ℕ × Months) → S → Type 0} (w : Meaning) (day : ℕ) (p : Run steps) (g : Mut F (Bor (ℕ × Months) × Unit {0}) ℕ) (f : F) (r : Option (ℕ × Months)) → p.items ≡ filter_map (λ c. offered c (w.on day c)) (range_with_len 0 w.classes) → ((x : ℕ × Months) (k : ℕ) (q : F) → CalledAt g f x k q → (q ≡ f) × (k ≡ x.1.count)) → MatchOption r (p.len ≡ 0) (λ m. AnyItem p (λ x. x ≡ m) × NoKeyBeyond p g f is_gt nat_cmp m) → MatchOption r (NoneTradable w day) (λ m. NoneLonger w day m.1.count)
picks w day p g f None is calls empty = λ c l.
    none_offered c (w.on day c) (λ y e.
    let i = listed (λ c. offered c (w.on day c)) 0 w.classes c y (omega arith) (omega arith) e in
    let within = slice_get_within p.items i.0 y (ap (λ xs. slice_get xs i.0) is ∙ i.1) in
    omega (arith, within, p.long, empty))
picks w day p g f (Some m) is calls picked = λ c l.
    none_longer c m.1.count (w.on day c) (λ y e.
    let i = listed (λ c. offered c (w.on day c)) 0 w.classes c y (omega arith) (omega arith) e in
    greatest p g f (λ x. x.1.count) m calls picked.1 y i.0 (ap (λ xs. slice_get xs i.0) is ∙ i.1))
