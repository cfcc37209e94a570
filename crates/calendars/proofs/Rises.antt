-- Strictly rising numbers, told by neighbours. Assumes nothing.
use Rattle.std.proofs.Common.{◌≡◌, ℕ, ◌+◌, List, Bool, true, false, Decides, sym, refl, ◌∙◌, ltb, arith}
use Rattle.std.specs.List.{IsAllAdjacentAnswer}
use Rattle.std.proofs.lemmas.Bool.{ltb-true, lt-ltb, false≢true}
use Rattle.std.proofs.lemmas.List.Sorted.{IsNonDecreasingBy-from_all_adjacent}
use Rattle.coded.specs.Places.{Rising}

pub rises_told : (xs : List ℕ) (r : Bool) → IsAllAdjacentAnswer (λ x y b. b ≡ ltb x y) xs r → Decides r (Rising xs)
rises_told xs true h = (
  λ _ i j l t.
      let next = ltb-true _ _ (sym (h i 0 (omega arith))) in
      let far = IsNonDecreasingBy-from_all_adjacent (λ x. x) xs (λ k d u. let s = ltb-true _ _ (sym (h k d u)) in omega arith) (i + 1) j 0 (omega arith) t in
      omega arith,
  λ _. refl,
)
rises_told xs false h = (
  λ t. absurd (false≢true t),
  λ up. absurd (false≢true (h.2 0 ∙ lt-ltb _ _ (up h.0 (h.0 + 1) (omega arith) h.1))),
)
