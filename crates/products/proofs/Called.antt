-- The class with a name, against what a search over the classes finds. Assumes nothing.
use Rattle.std.proofs.Common.{◌≡◌, ◌≢◌, ℕ, zero, suc, ◌+◌, ◌<◌, ◌≤◌, Bool, true, false, cond, List, Some, None, Option, MatchOption, bytes_eq, find, refl, ap, ⊎_elim, arith}
use Rattle.std.proofs.lemmas.Bool.{cases_lt}
use Rattle.std.proofs.lemmas.List.{get_or_past}
use Rattle.std.proofs.lemmas.Slice.Eq.{bytes_eq-Decides}
use Rattle.std.specs.List.{range_with_len}
use Rattle.std.specs.Option.{option_map, option_map_or}
use Rattle.products.specs.declared.product.Product.{Product}
use Rattle.products.specs.declared.product.Product.TheVariants.{Power, Wheat}
use Rattle.products.specs.Products.{class_name, is_called, class_of, NoneIsCalled}

-- what a test of one class tells of its name
has_name : (p : Product) (name : List ℕ) (c : ℕ) → is_called p name c ≡ true → class_name p c ≡ Some name
unfolding is_called
has_name p name c h = by_name (class_name p c) h
  where
    by_name : (o : Option (List ℕ)) → option_map_or (λ known. bytes_eq known name) o false ≡ true → o ≡ Some name
    by_name None h = absurd cc
    by_name (Some known) h = ap Some ((bytes_eq-Decides known name).0 h)

other_name : (p : Product) (name : List ℕ) (c : ℕ) → is_called p name c ≡ false → class_name p c ≢ Some name
unfolding is_called
other_name p name c h = by_name (class_name p c) h
  where
    by_name : (o : Option (List ℕ)) → option_map_or (λ known. bytes_eq known name) o false ≡ false → o ≡ Some name → ⊥
    by_name None h e = absurd cc
    by_name (Some known) h e = let k : bytes_eq known name ≡ true = (bytes_eq-Decides known name).1 cc in absurd cc

-- a search over n numbers from a on found one that passes, or none of them does
abbrev Says : (ℕ → Bool) → ℕ → ℕ → Option ℕ → Type 0
Says test a n o = MatchOption o ((c : ℕ) → a ≤ c → c < a + n → test c ≡ false) (λ c. test c ≡ true)

one_more : (test : ℕ → Bool) (a n : ℕ) → test a ≡ false → (o : Option ℕ) → Says test (a + 1) n o → Says test a (suc n) o
one_more test a n e (Some c) h = h
one_more test a n e None h =
    λ c low high. ⊎_elim (λ above. h c (omega arith) (omega arith)) (λ below. let same : c ≡ a = omega arith in rw same e) (cases_lt a c)

search_says : (test : ℕ → Bool) (a n : ℕ) → Says test a n (find test (range_with_len a n))
search_says test a zero = λ c h k. absurd (omega arith)
search_says test a (suc n) = at_first (test a) refl (find test (range_with_len (a + 1) n)) (search_says test (a + 1) n)
  where
    at_first : (t : Bool) → test a ≡ t → (o : Option ℕ) → Says test (a + 1) n o → Says test a (suc n) (cond t (Some a) o)
    at_first true e o h = e
    at_first false e o h = one_more test a n e o h

no_class : (p : Product) (c : ℕ) → 12 ≤ c → class_name p c ≡ None
no_class Power c h = grind (arith, get_or_past)
no_class Wheat c h = grind (arith, get_or_past)

pub search_result : (p : Product) (name : List ℕ) (o : Option ℕ) → option_map (λ c. c) o ≡ find (is_called p name) (range_with_len 0 12) → o ≡ class_of p name
unfolding class_of
search_result p name None e = e
search_result p name (Some c) e = e

pub class_of-called : (p : Product) (name : List ℕ) → MatchOption (class_of p name) (NoneIsCalled p name) (λ c. class_name p c ≡ Some name)
unfolding class_of
class_of-called p name = by_search (find (is_called p name) (range_with_len 0 12)) (search_says (is_called p name) 0 12)
  where
    by_search : (o : Option ℕ) → Says (is_called p name) 0 12 o → MatchOption o (NoneIsCalled p name) (λ c. class_name p c ≡ Some name)
    by_search (Some c) h = has_name p name c h
    by_search None h = λ c. ⊎_elim (λ low. other_name p name c (h c (omega arith) low)) (λ high e. let no = no_class p c high in absurd cc) (cases_lt c 12)
