-- Calls, one after the other, and days of them. Assumes nothing.
use Rattle.std.proofs.Common.{◌≡◌, ℕ, suc, ◌+◌, ◌-◌, ◌<◌, ◌≤◌, true, false, cond, List, [], ◌∷◌, ℤ, Option, sym, ap, ◌∙◌, arith}
use Rattle.ledger.specs.declared.call.Call.{Call}
use Rattle.life.specs.Runs.{Run, call_run, accepts, calls_run, all_pass, day_run, day_passes, days_run}
use Rattle.products.specs.declared.product.Product.{Product}
use Rattle.terms.specs.Meaning.{Meaning}

module _ (w : Meaning) (product : Product) (followed : Option ℕ) (n : ℕ) where
  -- from a run one comes to another, and from calls to those that are left
  pub record Along (calls rest : List Call) (r r' : Run) : Type 0 where
    pub runs : calls_run w product followed n calls r ≡ calls_run w product followed n rest r'
    pub passes : all_pass w product followed n calls r ≡ all_pass w product followed n rest r'

  pub accepted : (calls rest more : List Call) (call : Call) (r r' r'' : Run) → Along calls rest r r' → rest ≡ call ∷ more → true ≡ accepts w product followed call r' → r'' ≡ call_run w product followed n call r' → Along calls more r r''
  unfolding calls_run all_pass
  accepted calls rest more call r r' r'' a e fine p =
      let next = call_run w product followed n call r' in
      record {
        runs =
            a.runs ∙ ap (λ l. calls_run w product followed n l r') e ∙ ap (λ b. cond b (calls_run w product followed n more next) next) (sym fine) ∙ ap (calls_run w product followed n more) (sym p);
        passes =
            a.passes ∙ ap (λ l. all_pass w product followed n l r') e ∙ ap (λ b. cond b (all_pass w product followed n more next) false) (sym fine) ∙ ap (all_pass w product followed n more) (sym p);
      }

  pub refused : (calls rest more : List Call) (call : Call) (r r' r'' : Run) → Along calls rest r r' → rest ≡ call ∷ more → false ≡ accepts w product followed call r' → r'' ≡ call_run w product followed n call r' → (r'' ≡ calls_run w product followed n calls r) × (false ≡ all_pass w product followed n calls r)
  unfolding calls_run all_pass
  refused calls rest more call r r' r'' a e bad p =
      let next = call_run w product followed n call r' in
      (p ∙ ap (λ b. cond b (calls_run w product followed n more next) next) bad ∙ sym (a.runs ∙ ap (λ l. calls_run w product followed n l r') e), ap (λ b. cond b (all_pass w product followed n more next) false) bad ∙ sym (a.passes ∙ ap (λ l. all_pass w product followed n l r') e))

  pub none_left : (calls rest : List Call) (r r' : Run) → Along calls rest r r' → rest ≡ [] → (r' ≡ calls_run w product followed n calls r) × (true ≡ all_pass w product followed n calls r)
  unfolding calls_run all_pass
  none_left calls rest r r' a e =
      (sym (a.runs ∙ ap (λ l. calls_run w product followed n l r') e), sym (a.passes ∙ ap (λ l. all_pass w product followed n l r') e))

  module _ (price : ℤ) where
    -- k of m days are over
    abbrev pub OnTheWay : ℕ → ℕ → Run → Run → Type 0
    OnTheWay k m r r' = days_run w product followed n price m r ≡ days_run w product followed n price (m - k) r'

    opens : (k m : ℕ) (r' : Run) → k < m → days_run w product followed n price (m - k) r' ≡ days_run w product followed n price (suc (m - (k + 1))) r'
    opens k m r' h =
        let e : m - k ≡ suc (m - (k + 1)) = omega arith in
        ap (λ x. days_run w product followed n price x r') e

    pub passed_day : (k m : ℕ) (r r' r'' : Run) → k < m → OnTheWay k m r r' → true ≡ day_passes w product followed n price r' → r'' ≡ day_run w product followed n price r' → OnTheWay (k + 1) m r r''
    unfolding days_run
    passed_day k m r r' r'' h a fine p =
        let next = day_run w product followed n price r' in
        a ∙ opens k m r' h ∙ ap (λ b. cond b (days_run w product followed n price (m - (k + 1)) next) next) (sym fine) ∙ ap (days_run w product followed n price (m - (k + 1))) (sym p)

    pub refused_day : (k m : ℕ) (r r' r'' : Run) → k < m → OnTheWay k m r r' → false ≡ day_passes w product followed n price r' → r'' ≡ day_run w product followed n price r' → r'' ≡ days_run w product followed n price m r
    unfolding days_run
    refused_day k m r r' r'' h a bad p =
        let next = day_run w product followed n price r' in
        p ∙ ap (λ b. cond b (days_run w product followed n price (m - (k + 1)) next) next) bad ∙ sym (a ∙ opens k m r' h)

    pub days_over : (k m : ℕ) (r r' : Run) → m ≤ k → OnTheWay k m r r' → r' ≡ days_run w product followed n price m r
    unfolding days_run
    days_over k m r r' h a =
        let z : m - k ≡ 0 = omega arith in
        sym (a ∙ ap (λ x. days_run w product followed n price x r') z)
