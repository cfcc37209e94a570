-- The ring laws of ℤ that the library lacks, the signs of products and their sizes. Assumes nothing.
use Rattle.std.proofs.Common.{◌≡◌, ℕ, zero, suc, ◌*◌, ◌≤◌, ℤ, pos, negsuc, ◌+ℤ◌, ◌-ℤ◌, ◌*ℤ◌, neg_ℤ, nat_abs, ◌≤ℤ◌, sym, ap, ◌∙◌, le_trans, mul-le-mul_right, mul-le-mul_left, arith}
use lib.IntN.{pred_ℤ, +ℤ_idl, zero-*ℤ, *ℤ_comm, suc_ℤ-*ℤ, pred_ℤ-*ℤ, suc_ℤ-+ℤ, pred_ℤ-+ℤ}
use Rattle.std.proofs.lemmas.Int.{ints, unsigned_abs-mul}

-- one more and one less in the first factor
suc-times : (m : ℕ) (k : ℤ) → pos (suc m) *ℤ k ≡ pos m *ℤ k +ℤ k
suc-times m k = suc_ℤ-*ℤ (pos m) k

minus-times : (k : ℤ) → negsuc zero *ℤ k ≡ neg_ℤ k
minus-times k = pred_ℤ-*ℤ (pos zero) k ∙ ap (λ x. x -ℤ k) (zero-*ℤ k) ∙ +ℤ_idl (neg_ℤ k)

pred-times : (m : ℕ) (k : ℤ) → negsuc (suc m) *ℤ k ≡ negsuc m *ℤ k -ℤ k
pred-times m k = pred_ℤ-*ℤ (negsuc m) k

pub *ℤ-right-distrib : (m n k : ℤ) → (m +ℤ n) *ℤ k ≡ m *ℤ k +ℤ n *ℤ k
*ℤ-right-distrib (pos zero) n k = ap (λ x. x *ℤ k) (+ℤ_idl n) ∙ omega (arith, ints, zero-*ℤ k)
*ℤ-right-distrib (pos (suc m)) n k =
    ap (λ x. x *ℤ k) (suc_ℤ-+ℤ (pos m) n) ∙ suc_ℤ-*ℤ (pos m +ℤ n) k ∙ omega (arith, ints, suc-times m k, *ℤ-right-distrib (pos m) n k)
*ℤ-right-distrib (negsuc zero) n k =
    ap (λ x. x *ℤ k) (pred_ℤ-+ℤ (pos zero) n ∙ ap pred_ℤ (+ℤ_idl n)) ∙ pred_ℤ-*ℤ n k ∙ omega (arith, ints, minus-times k)
*ℤ-right-distrib (negsuc (suc m)) n k =
    ap (λ x. x *ℤ k) (pred_ℤ-+ℤ (negsuc m) n) ∙ pred_ℤ-*ℤ (negsuc m +ℤ n) k ∙ omega (arith, ints, pred-times m k, *ℤ-right-distrib (negsuc m) n k)

pub *ℤ-left-distrib : (k m n : ℤ) → k *ℤ (m +ℤ n) ≡ k *ℤ m +ℤ k *ℤ n
*ℤ-left-distrib k m n = *ℤ_comm k (m +ℤ n) ∙ *ℤ-right-distrib m n k ∙ omega (arith, ints, *ℤ_comm m k, *ℤ_comm n k)

-- a minus moves out of either factor
pub neg-*ℤ : (m k : ℤ) → neg_ℤ m *ℤ k ≡ neg_ℤ (m *ℤ k)
neg-*ℤ m k = grind (arith, ints)

pub *ℤ-neg : (k m : ℤ) → k *ℤ neg_ℤ m ≡ neg_ℤ (k *ℤ m)
*ℤ-neg k m = *ℤ_comm k (neg_ℤ m) ∙ neg-*ℤ m k ∙ ap neg_ℤ (*ℤ_comm m k)

pub *ℤ-right-sub : (m n k : ℤ) → (m -ℤ n) *ℤ k ≡ m *ℤ k -ℤ n *ℤ k
*ℤ-right-sub m n k = *ℤ-right-distrib m (neg_ℤ n) k ∙ ap (λ x. m *ℤ k +ℤ x) (neg-*ℤ n k)

pub *ℤ-left-sub : (k m n : ℤ) → k *ℤ (m -ℤ n) ≡ k *ℤ m -ℤ k *ℤ n
*ℤ-left-sub k m n = *ℤ-left-distrib k m (neg_ℤ n) ∙ ap (λ x. k *ℤ m +ℤ x) (*ℤ-neg k n)

pub *ℤ-assoc : (a b c : ℤ) → a *ℤ b *ℤ c ≡ a *ℤ (b *ℤ c)
*ℤ-assoc (pos zero) b c = ap (λ x. x *ℤ c) (zero-*ℤ b) ∙ zero-*ℤ c ∙ sym (zero-*ℤ (b *ℤ c))
*ℤ-assoc (pos (suc m)) b c =
    ap (λ x. x *ℤ c) (suc-times m b) ∙ *ℤ-right-distrib (pos m *ℤ b) b c ∙ ap (λ x. x +ℤ b *ℤ c) (*ℤ-assoc (pos m) b c) ∙ sym (suc-times m (b *ℤ c))
*ℤ-assoc (negsuc zero) b c = ap (λ x. x *ℤ c) (minus-times b) ∙ neg-*ℤ b c ∙ sym (minus-times (b *ℤ c))
*ℤ-assoc (negsuc (suc m)) b c =
    ap (λ x. x *ℤ c) (pred-times m b) ∙ *ℤ-right-sub (negsuc m *ℤ b) b c ∙ ap (λ x. x -ℤ b *ℤ c) (*ℤ-assoc (negsuc m) b c) ∙ sym (pred-times m (b *ℤ c))

-- a factor that is not negative keeps the order
pub *ℤ-mono : (n : ℕ) (a b : ℤ) → a ≤ℤ b → (pos n *ℤ a) ≤ℤ (pos n *ℤ b)
*ℤ-mono zero a b h = omega (arith, ints, zero-*ℤ a, zero-*ℤ b)
*ℤ-mono (suc n) a b h = omega (arith, ints, suc-times n a, suc-times n b, *ℤ-mono n a b h)

pub product_le : (a b : ℤ) (m n : ℕ) → nat_abs a ≤ m → nat_abs b ≤ n → nat_abs (a *ℤ b) ≤ m * n
product_le a b m n h k = rw unsigned_abs-mul (le_trans (mul-le-mul_right (nat_abs b) h) (mul-le-mul_left m k))
