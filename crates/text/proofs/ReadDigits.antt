-- Reading digits, one after the other. Assumes nothing.
use Rattle.std.proofs.Common.{◌≡◌, ℕ, ◌+◌, ◌-◌, ◌*◌, ◌^◌, ◌<◌, ◌≤◌, Bool, true, false, cond, ◌⊎◌, List, length, get_or, drop, Some, None, ap, ◌∙◌, inl, inr, pow-suc, add-one, arith}
use native.Mathlib.Nat.{pow-le-pow_right}
use Rattle.std.proofs.lemmas.List.{at_drop_more, at_drop_all}
use Rattle.std.proofs.lemmas.Bool.Decides.{nat_tests}
use Rattle.text.specs.Numbers.{is_digit, read_on, digits_value}

pub wrong-length : (s : List ℕ) → (length s ≡ 0) ⊎ (9 < length s) → None ≡ digits_value s
unfolding digits_value
wrong-length s (inl h) = grind (arith, nat_tests)
wrong-length s (inr h) = grind (arith, nat_tests)

pub right-length : (s : List ℕ) → 1 ≤ length s → length s ≤ 9 → digits_value s ≡ read_on 0 s
unfolding digits_value
right-length s h k = grind (arith, nat_tests)

pub goes : (n : ℕ) (s : List ℕ) (i : ℕ) → i < length s → is_digit (get_or s i 0) ≡ true → read_on n (drop i s) ≡ read_on (10 * n + (get_or s i 0 - 48)) (drop (i + 1) s)
unfolding read_on
goes n s i h d = at_drop_more (read_on n) s i 0 h ∙ ap (λ (t : Bool). cond t (read_on (10 * n + (get_or s i 0 - 48)) (drop (i + 1) s)) None) d

pub stops : (n : ℕ) (s : List ℕ) (i : ℕ) → i < length s → is_digit (get_or s i 0) ≡ false → read_on n (drop i s) ≡ None
unfolding read_on
stops n s i h d = at_drop_more (read_on n) s i 0 h ∙ ap (λ (t : Bool). cond t (read_on (10 * n + (get_or s i 0 - 48)) (drop (i + 1) s)) None) d

pub ends : (n : ℕ) (s : List ℕ) (i : ℕ) → length s ≤ i → read_on n (drop i s) ≡ Some n
unfolding read_on
ends n s i h = at_drop_all (read_on n) s i h

pub digit-more : (n i d : ℕ) → n < 10 ^ i → d < 10 → 10 * n + d < 10 ^ (i + 1)
digit-more n i d h k = rw (add-one, pow-suc) (omega arith)

pub ten-power : (i j : ℕ) → i ≤ j → 10 ^ i ≤ 10 ^ j
ten-power i j h = pow-le-pow_right {n = 10} (omega arith) {i = i} {j = j} h
