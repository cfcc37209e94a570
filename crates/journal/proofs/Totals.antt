-- The sum of the first numbers of a row. Assumes nothing.
use Rattle.std.proofs.Common.{◌≡◌, ℕ, ◌<◌, ◌≤◌, Bool, true, ◌&&◌, leb, List, length, take, ℤ, pos, nat_abs, Some, None, Option, unwrap_or, refl, sym, ap, ◌∙◌, subst, arith}
use Rattle.amounts.proofs.Sums.{sum_same}
use Rattle.amounts.specs.SumsOfWhole.{sum_z}
use Rattle.book.proofs.Lives.{lived-made}
use Rattle.ledger.proofs.Tests.{ask-none}
use Rattle.ledger.specs.Ledger.{Lived}
use Rattle.ledger.specs.State.{State}
use Rattle.ledger.specs.Words.{at, or_zero}
use Rattle.std.proofs.lemmas.Bool.{leb-true}
use Rattle.std.proofs.lemmas.List.{get_or-take, length-take}
use Rattle.terms.specs.Meaning.{Meaning}

pub few : (n : ℕ) (xs : List ℤ) → n ≤ 1200 → length (take n xs) ≤ 1200
few n xs h = omega (arith, length-take n xs)

pub small : (n : ℕ) (xs : List ℤ) (b top : ℕ) → n ≤ top → ((i : ℕ) → i < top → nat_abs (at xs i) ≤ b) → (i : ℕ) → i < length (take n xs) → nat_abs (at (take n xs) i) ≤ b
small n xs b top h each i l =
    let m : i < n = omega (arith, length-take n xs) in
    subst (λ (z : ℤ). nat_abs z ≤ b) (sym (get_or-take n xs i (pos 0) m)) (each i (omega arith))

pub sum-of : (n : ℕ) (xs : List ℤ) (f : ℕ → ℤ) → n ≤ length xs → ((i : ℕ) → i < n → at xs i ≡ f i) → sum_z (length (take n xs)) (at (take n xs)) ≡ sum_z n f
sum-of n xs f h each =
    let e : length (take n xs) ≡ n = omega (arith, length-take n xs) in
    ap (λ k. sum_z k (at (take n xs))) e ∙ sum_same n (at (take n xs)) f (λ i l. get_or-take n xs i (pos 0) l ∙ each i l)

-- a missing price counts as 0
pub zero-or : (o : Option ℤ) → unwrap_or o (pos 0) ≡ or_zero o
zero-or None = refl
zero-or (Some p) = refl

and-right : (a b : Bool) → (a && b) ≡ true → b ≡ true
and-right a b e = search arith

-- a book has at most 32 accounts
pub accounts-few : (w : Meaning) (s : State) → ∥ Lived w s ∥₁ → s.made.accounts ≤ 32
accounts-few w s lived =
    let asked = (ask-none (leb 2 s.made.accounts && leb s.made.accounts 32) _ _ (lived-made w s lived)).0 in
    leb-true s.made.accounts 32 (and-right (leb 2 s.made.accounts) _ asked)
