-- The rows of an account, place by place. Assumes nothing.
use Rattle.std.proofs.Common.{◌≡◌, ℕ, ◌<◌, ◌≤◌, ◌==◌, true, false, List, length, get_or, set, ℤ, pos, ◌+ℤ◌, nat_abs, sym, ◌∙◌, subst, ⊎_elim, arith}
use Rattle.amounts.proofs.Sums.{hit, miss, sum-nil}
use Rattle.amounts.specs.SumsOfWhole.{if_z}
use Rattle.book.specs.Rows.{Flagged}
use Rattle.day_table.specs.Table.{day_in}
use Rattle.day_table.specs.declared.table.DayTable.{DayTable}
use Rattle.ledger.proofs.Tests.{put-here, put-there}
use Rattle.ledger.specs.Calls.{lots_fit, after_parts}
use Rattle.ledger.specs.State.{Row}
use Rattle.ledger.specs.Words.{at, put}
use Rattle.std.proofs.lemmas.Bool.{cases_eq, cond-false}
use Rattle.std.proofs.lemmas.Int.{ints}
use Rattle.std.proofs.lemmas.List.{get_or-set_same, get_or-set_other}

-- a list with another value at one place
pub read_set : {A : Type 0} (xs : List A) (i k : ℕ) (v d : A) → i < length xs → get_or (set xs i v) k d ≡ put (λ k. get_or xs k d) i v k
read_set xs i k v d h =
    ⊎_elim
    (λ (e : k ≡ i). subst (λ k. get_or (set xs i v) k d ≡ v) (sym e) (get_or-set_same xs i v d h) ∙ sym (put-here k i v (get_or xs k d) e))
    (λ (e : k ≡ i → ⊥). get_or-set_other xs i k v d e ∙ sym (put-there k i v (get_or xs k d) e))
    (cases_eq k i)

-- a row of which one place has x more
pub more_set : (xs : List ℤ) (c : ℕ) (v x : ℤ) → c < length xs → v ≡ at xs c +ℤ x → (k : ℕ) → at (set xs c v) k ≡ at xs k +ℤ if_z (k == c) x
more_set xs c v x h e k =
    read_set xs c k v (pos 0) h
    ∙ ⊎_elim
    (λ (z : k ≡ c). put-here k c v (at xs k) z ∙ e ∙ (λ i. at xs (sym z i) +ℤ sym (hit k c x z) i))
    (λ (z : k ≡ c → ⊥). put-there k c v (at xs k) z ∙ omega (arith, ints, miss k c x z))
    (cases_eq k c)

-- a row with x more at one place, where y is what the code has for x
pub more-small : (m : ℕ) (xs ys : List ℤ) (c : ℕ) (x y : ℤ) → y ≡ x → ((k : ℕ) → at ys k ≡ at xs k +ℤ if_z (k == c) y) → nat_abs (at xs c +ℤ x) ≤ m → ((k : ℕ) → nat_abs (at xs k) ≤ m) → (k : ℕ) → nat_abs (at ys k) ≤ m
more-small m xs ys c x y same more room small k =
    ⊎_elim
    (λ (e : k ≡ c). subst (λ (z : ℤ). nat_abs z ≤ m) (sym (more k ∙ (λ i. at xs (e i) +ℤ hit k c (same i) e i))) room)
    (λ (e : k ≡ c → ⊥). omega (arith, ints, more k, miss k c y e, small k))
    (cases_eq k c)

pub fit-small : (x : ℤ) → lots_fit x ≡ true → nat_abs x ≤ 1000
fit-small x e = grind (arith, ints)

-- on a day on which no class has parts the lots stay where they are
pub no-parts : (t : DayTable) (r : Row) (c : ℕ) → Flagged t → t.some_parts ≡ false → after_parts (day_in t) r c ≡ r.lots c
no-parts t r c flagged none =
    let given = sum-nil t.classes (λ e. if_z ((day_in t).part e c) (r.lots e)) (λ e h. cond-false ((day_in t).part e c) (r.lots e) (pos 0) (flagged none e c).1) in
    cond-false ((day_in t).whole c) (pos 0) _ (flagged none c c).0 ∙ omega (arith, ints, given)
