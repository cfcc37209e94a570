-- A settle of accounts in a list is the rule's. Assumes nothing.
use Rattle.std.proofs.Common.{◌≡◌, ℕ, ◌<◌, ◌≤◌, true, List, ◌++◌, drop, map, length, ℤ, pos, ◌+ℤ◌, nat_abs, Some, sym, ap, ◌∙◌, ⊎_elim, arith}
use Rattle.amounts.specs.Amounts.{final_payment}
use Rattle.book.specs.Rows.{row_of, rows_of, row_paid, CashFits}
use Rattle.book.specs.declared.account.Account.{Account}
use Rattle.ledger.proofs.Linear.{nil-moved}
use Rattle.ledger.proofs.Tests.{all-each, all_same}
use Rattle.ledger.specs.Calls.{settle_pay, row_settled, cash_fits}
use Rattle.ledger.specs.Questions.{payment_lines, written}
use Rattle.ledger.specs.State.{Market, Row, nil_row}
use Rattle.ledger.specs.Words.{all_below, at, or_zero}
use Rattle.ledger.specs.declared.call.Call.TheVariants.{Settle}
use Rattle.ledger.specs.declared.payment.Payment.{Payment}
use Rattle.std.proofs.lemmas.Bool.{cases_lt}
use Rattle.std.proofs.lemmas.Int.{ints}
use Rattle.std.proofs.lemmas.List.{get_or_past, length-map}
use Rattle.std.proofs.lemmas.List.FromFn.{length-map-range_with_len, get_or-map-range_with_len, fill_by_all}
use Rattle.terms.specs.Day.{Day, day_of}
use Rattle.terms.specs.Meaning.{Meaning}

-- past the last account nothing is held
pub rows-past : (xs : List Account) (a : ℕ) → length xs ≤ a → rows_of xs a ≡ nil_row
rows-past xs a h = get_or_past (map row_of xs) a nil_row (omega (arith, length-map xs row_of))

-- what holds of each account, and makes nothing of nothing, holds of every row
pub each-row : (f : ℕ → Row → Row) (xs ys : List Account) → ((a : ℕ) → f a nil_row ≡ nil_row) → length ys ≡ length xs → ((a : ℕ) → a < length xs → rows_of ys a ≡ f a (rows_of xs a)) → (a : ℕ) → rows_of ys a ≡ f a (rows_of xs a)
each-row f xs ys nil long each a =
    ⊎_elim
    (λ (l : a < length xs). each a l)
    (λ (l : length xs ≤ a). rows-past ys a (omega (arith, long)) ∙ sym (nil a) ∙ ap (f a) (sym (rows-past xs a l)))
    (cases_lt a (length xs))

-- an account's payment, by the class and its quantity
pub pays-settled : (d : Day) (k : Market) (f l : ℤ) (r : Row) (c q : ℕ) → c ≡ d.settling → q ≡ d.quantity c → k.last d.settling ≡ Some l → final_payment q (r.lots c) f l ≡ settle_pay d k f r
pays-settled d k f l r c q e u v = λ i. final_payment ((u ∙ ap d.quantity e) i) (r.lots (e i)) f (sym (ap or_zero v) i)

-- the rows after it
pub settled-rows : (w : Meaning) (k : Market) (f : ℤ) (c : ℕ) (xs ys : List Account) (pays : List ℤ) → c ≡ w.settling → length ys ≡ length xs → ((a : ℕ) → a < length xs → rows_of ys a ≡ row_paid c (at pays a) (rows_of xs a)) → ((a : ℕ) → a < length xs → at pays a ≡ settle_pay (day_of w k.day) k f (rows_of xs a)) → (a : ℕ) → rows_of ys a ≡ row_settled (day_of w k.day) k f (rows_of xs a)
settled-rows w k f c xs ys pays e long rows is =
    each-row (λ a r. row_settled (day_of w k.day) k f r) xs ys (λ a. nil-moved w k (Settle f 0)) long
    (λ a l. rows a l ∙ (λ i. row_paid (e i) (is a l i) (rows_of xs a)))

-- ---- the question of the cash

cash-size : (x : ℤ) → cash_fits x ≡ true → nat_abs x ≤ 9000000000000000000
cash-size x h = grind (arith, ints)

pub cash-small : (xs : List Account) (pays : List ℤ) → all_below (length xs) (λ a. cash_fits ((rows_of xs a).cash +ℤ at pays a)) ≡ true → CashFits xs pays
cash-small xs pays h a l = cash-size ((rows_of xs a).cash +ℤ at pays a) (all-each (length xs) (λ a. cash_fits ((rows_of xs a).cash +ℤ at pays a)) h a l)

-- asked of the payments it is asked of what the rule pays
pub cash-same : (n : ℕ) (rows : ℕ → Row) (pays : ℕ → ℤ) (f : Row → ℤ) → ((a : ℕ) → a < n → pays a ≡ f (rows a)) → all_below n (λ a. cash_fits ((rows a).cash +ℤ pays a)) ≡ all_below n (λ a. cash_fits ((rows a).cash +ℤ f (rows a)))
cash-same n rows pays f e = all_same n _ _ (λ a l. ap (λ p. cash_fits ((rows a).cash +ℤ p)) (e a l))

-- ---- the payment list

-- lists written by the same payments of the accounts are the same
pub written_same : (n : ℕ) (list : List Payment) (f g : ℕ → ℤ) → ((a : ℕ) → a < n → f a ≡ g a) → written list n f ≡ written list n g
written_same n list f g same =
    let line : (ℕ → ℤ) → ℕ → Payment = λ pays a. record { account = a; cents = pays a } in
    let none : Payment = record { account = 0; cents = pos 0 } in
    ap (λ ls. ls ++ drop n list)
    (fill_by_all (line g) (payment_lines n f) n none (length-map-range_with_len (line f) 0 n) (λ k h. get_or-map-range_with_len (line f) 0 n k k none h (omega arith) ∙ ap (λ z. record { account = k; cents = z }) (same k h)))
