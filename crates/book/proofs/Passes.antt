-- A loop that changes the accounts of a list in turn. Assumes nothing.
use Rattle.std.proofs.Common.{◌≡◌, ℕ, ◌+◌, ◌<◌, ◌≤◌, List, length, get_or, set, sym, ap, ◌∙◌, ⊎_elim, length-set, arith}
use Rattle.std.proofs.lemmas.Bool.{cases_eq}
use Rattle.book.proofs.AccountRows.{rows-set, rows-at}
use Rattle.book.specs.Rows.{row_of, rows_of}
use Rattle.book.specs.declared.account.Account.{Account}
use Rattle.ledger.proofs.Tests.{put-here, put-there}
use Rattle.ledger.specs.State.{Row}

-- the rows of the accounts before i were changed, and those of the others are as they were
pub record Passed (f : ℕ → Row → Row) (i : ℕ) (xs ys : List Account) : Type 0 where
  pub long : length ys ≡ length xs
  pub done : (k : ℕ) → k < i → k < length xs → rows_of ys k ≡ f k (rows_of xs k)
  pub rest : (k : ℕ) → i ≤ k → rows_of ys k ≡ rows_of xs k

module _ (f : ℕ → Row → Row) (xs : List Account) (i : ℕ) (ys : List Account) (p : Passed f i xs ys) where
  -- the row whose turn it is
  pub turn : (d : Account) → i < length xs → rows_of xs i ≡ row_of (get_or ys i d)
  turn d h = sym (p.rest i (omega arith)) ∙ rows-at ys i d (omega (arith, p.long))

  pub passed-more : (d y : Account) → i < length xs → row_of y ≡ f i (row_of (get_or ys i d)) → Passed f (i + 1) xs (set ys i y)
  passed-more d y h e =
      let l : i < length ys = omega (arith, p.long) in
      record {
        long = length-set ys i y ∙ p.long;
        done = λ k lk hk.
            ⊎_elim
            (λ (q : k ≡ i). rows-set ys i k y l ∙ put-here k i (row_of y) (rows_of ys k) q ∙ e ∙ ap (f i) (sym (turn d h)) ∙ (λ j. f (sym q j) (rows_of xs (sym q j))))
            (λ (q : k ≡ i → ⊥). rows-set ys i k y l ∙ put-there k i (row_of y) (rows_of ys k) q ∙ p.done k (omega arith) hk)
            (cases_eq k i);
        rest = λ k lk. rows-set ys i k y l ∙ put-there k i (row_of y) (rows_of ys k) (λ q. omega arith) ∙ p.rest k (omega arith);
      }
