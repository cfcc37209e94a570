-- The rows of accounts in a list: one account set, one read, all tested. Assumes nothing.
use Rattle.std.proofs.Common.{◌≡◌, ℕ, ◌<◌, Bool, true, false, MatchBool, cond, eqb, List, [], ◌∷◌, map, length, get_or, set, sym, ap, ◌∙◌, subst, arith}
use Rattle.std.proofs.lemmas.List.{map-set, length-map, get_or-map}
use Rattle.std.specs.List.{AllWithin, HoldsAt}
use Rattle.book.proofs.Places.{read_set}
use Rattle.book.specs.Rows.{row_of, rows_of}
use Rattle.book.specs.declared.account.Account.{Account}
use Rattle.ledger.specs.State.{Row, nil_row}
use Rattle.terms.proofs.Ranges.{all-pass, all-not}
use Rattle.terms.specs.Meaning.{all_below}

pub rows-set : (xs : List Account) (i a : ℕ) (x : Account) → i < length xs → rows_of (set xs i x) a ≡ cond (eqb a i) (row_of x) (rows_of xs a)
rows-set xs i a x h = ap (λ rs. get_or rs a nil_row) (map-set row_of xs i x) ∙ read_set (map row_of xs) i a (row_of x) nil_row (omega (arith, length-map xs row_of))

pub rows-at : (xs : List Account) (i : ℕ) (d : Account) → i < length xs → rows_of xs i ≡ row_of (get_or xs i d)
rows-at xs i d h = get_or-map row_of xs i d nil_row h

-- what is so of the account at a place
pub row-here : (P : Row → Type 0) (xs : List Account) (i : ℕ) → i < length xs → ((d : Account) → P (row_of (get_or xs i d))) → P (rows_of xs i)
row-here P [] i h p = absurd (omega arith)
row-here P (x ∷ xs) i h p = subst P (sym (rows-at (x ∷ xs) i x h)) (p x)

-- what `all` answers over the accounts, by their rows
pub all-rows : (f : Row → Bool) (xs : List Account) (r : Bool) → MatchBool r (AllWithin (λ x. f (row_of x) ≡ true) xs 0 (length xs)) ((i : ℕ) × (i < length xs) × HoldsAt (λ x. f (row_of x) ≡ false) xs i) → r ≡ all_below (length xs) (λ a. f (rows_of xs a))
all-rows f xs true h = sym (all-pass (length xs) (λ a. f (rows_of xs a)) (λ a l. row-here (λ r. f r ≡ true) xs a l (λ d. h a d (omega arith) l)))
all-rows f xs false h = sym (all-not (length xs) (λ a. f (rows_of xs a)) h.0 h.1 (row-here (λ r. f r ≡ false) xs h.0 h.1 h.2))
