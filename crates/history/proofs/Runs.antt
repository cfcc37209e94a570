-- A run of months, gone through from its first one on. Assumes nothing.
use Rattle.std.proofs.Common.{◌≡◌, ℕ, ◌+◌, ◌<◌, ◌≤◌, Bool, true, false, ◌&&◌, leb, ltb, List, length, get_or, set, sym, ap, ◌∙◌, ⊎_elim, arith}
use Rattle.std.proofs.lemmas.Bool.{cases_eq, cases_lt, le-leb, lt-ltb, le-ltb}
use Rattle.std.proofs.lemmas.Grind.{get_or-set_at}
use Rattle.std.proofs.lemmas.List.{get_or-set_other}

-- a month lies in a run of which the months before an end are done
abbrev pub in_run : ℕ → ℕ → ℕ → Bool
in_run first end m = leb first m && ltb m end

-- where f tells what becomes of what stands at a place, the month that comes next is done as well
module _ {A : Type 0} (f : Bool → A → A) (keeps : (x : A) → f false x ≡ x) (d y : A) (xs ys : List A) (first month : ℕ) (begun : first ≤ month) (inside : month < length ys) (so_far : (m : ℕ) → get_or ys m d ≡ f (in_run first month m) (get_or xs m d)) (here : y ≡ f true (get_or ys month d)) where
  now_done : in_run first (month + 1) month ≡ true
  now_done = λ i. le-leb first month begun i && lt-ltb month (month + 1) (omega arith) i

  not_before : in_run first month month ≡ false
  not_before = λ i. le-leb first month begun i && le-ltb month month (omega arith) i

  same_there : (m : ℕ) → (m ≡ month → ⊥) → in_run first (month + 1) m ≡ in_run first month m
  same_there m ne = ap (λ b. leb first m && b) (
      ⊎_elim
      (λ (l : m < month). lt-ltb m (month + 1) (omega arith) ∙ sym (lt-ltb m month l))
      (λ (l : month ≤ m). le-ltb m (month + 1) (omega arith) ∙ sym (le-ltb m month l))
      (cases_lt m month))

  pub run_more : (m : ℕ) → get_or (set ys month y) m d ≡ f (in_run first (month + 1) m) (get_or xs m d)
  run_more m =
      ⊎_elim
      (λ (e : m ≡ month).
      get_or-set_at ys month m y d e inside ∙ here ∙ ap (f true) (so_far month ∙ ap (λ b. f b (get_or xs month d)) not_before ∙ keeps _)
      ∙ (λ i. f (sym now_done i) (get_or xs month d)) ∙ ap (λ m. f (in_run first (month + 1) m) (get_or xs m d)) (sym e))
      (λ (ne : m ≡ month → ⊥). get_or-set_other ys month m y d ne ∙ so_far m ∙ ap (λ b. f b (get_or xs m d)) (sym (same_there m ne)))
      (cases_eq m month)
