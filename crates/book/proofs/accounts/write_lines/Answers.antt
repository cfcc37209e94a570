use Rattle.std.proofs.Common.{◌≡◌, ℕ, suc, ◌+◌, ◌<◌, List, [], ◌∷◌, ◌++◌, map, length, get_or, drop, set, ℤ, sym, ap, ◌∙◌, append_assoc, add-one, drop-cons, arith}
use Rattle.ledger.specs.Questions.{written}
use Rattle.ledger.specs.Words.{at}
use Rattle.ledger.specs.declared.payment.Payment.{Payment}
use Rattle.std.proofs.lemmas.List.FromFn.{length-map-range_with_len, map-range_with_len_more}
use Rattle.std.proofs.lemmas.List.{set_at}
use Rattle.std.specs.List.{range_with_len}
use Rattle.book.proofs.accounts.write_lines.Goals as goal

-- one line more
lines_more : (xs : List Payment) (i : ℕ) (pays : ℕ → ℤ) → i < length xs → set (written xs i pays) i (record { account = i; cents = pays i }) ≡ written xs (i + 1) pays
lines_more xs i pays h =
    let f : ℕ → Payment = λ a. record { account = a; cents = pays a } in
    let p = map f (range_with_len 0 i) in
    ap (λ ys. set (p ++ ys) i (f i)) (drop-cons xs i (f i) h)
    ∙ set_at p (get_or xs i (f i)) (drop (suc i) xs) (f i) i (length-map-range_with_len f 0 i)
    ∙ sym (append_assoc p (f i ∷ []) (drop (suc i) xs))
    ∙ (λ j. sym (map-range_with_len_more f 0 i i (omega arith)) j ++ drop (sym (add-one i) j) xs)

pub loop-account-preserved : goal.loop-account-preserved
loop-account-preserved c =
    let i = c.loop-account.account in
    (λ j. set (c.loop-account.invariant j) i (c.line.ensures j)) ∙ lines_more c.args.list.now i (at c.args.pays.now) (omega arith)
