-- The lines of values, one after the other. Assumes nothing.
use Rattle.std.proofs.Common.{◌≡◌, ℕ, ◌+◌, List, [], ◌∷◌, Option, sym, ap, ◌∙◌}
use Rattle.life.specs.Runs.{Run, line_run, rows_run}
use Rattle.products.specs.declared.product.Product.{Product}
use Rattle.terms.specs.Meaning.{Meaning}

module _ (w : Meaning) (product : Product) (followed : Option ℕ) (places : List ℕ) where
  pub one_line : (n n' n'' : ℕ) (rows rows' rest : List (List ℕ)) (line : List ℕ) (r r' r'' : Run) → rows_run w product followed places n rows r ≡ rows_run w product followed places n' rows' r' → rows' ≡ line ∷ rest → n'' ≡ n' + 1 → r'' ≡ line_run w product followed places n' line r' → rows_run w product followed places n rows r ≡ rows_run w product followed places n'' rest r''
  unfolding rows_run
  one_line n n' n'' rows rows' rest line r r' r'' a e k p =
      a ∙ ap (λ l. rows_run w product followed places n' l r') e ∙ (λ i. rows_run w product followed places (sym k i) rest (sym p i))

  pub lines_over : (n n' : ℕ) (rows rows' : List (List ℕ)) (r r' : Run) → rows_run w product followed places n rows r ≡ rows_run w product followed places n' rows' r' → rows' ≡ [] → r' ≡ rows_run w product followed places n rows r
  unfolding rows_run
  lines_over n n' rows rows' r r' a e = sym (a ∙ ap (λ l. rows_run w product followed places n' l r') e)
