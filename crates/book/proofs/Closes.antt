-- A close of accounts in a list is the rule's. Assumes nothing.
use Rattle.std.proofs.Common.{◌≡◌, ℕ, ◌<◌, ◌≤◌, Bool, true, false, cond, List, length, get_or, ℤ, pos, ◌+ℤ◌, ◌-ℤ◌, ◌*ℤ◌, nat_abs, sym, refl, ap, ◌∙◌, subst, ⊎_elim, arith}
use lib.IntN.{zero-*ℤ}
use Rattle.amounts.proofs.Sums.{sum_same, sum-nil}
use Rattle.amounts.specs.Amounts.{variation, part_payment}
use Rattle.amounts.specs.SumsOfWhole.{sum_z, if_z}
use Rattle.book.proofs.AccountRows.{row-here}
use Rattle.book.proofs.Places.{no-parts}
use Rattle.book.proofs.Settles.{rows-past}
use Rattle.book.specs.Quotes.{quote_at, quote_on, quote_pay}
use Rattle.book.specs.Rows.{rows_of, parts_pay_at, Flagged}
use Rattle.book.specs.declared.account.Account.{Account}
use Rattle.book.specs.declared.quotes.Quote.{Quote}
use Rattle.day_table.specs.Table.{day_in}
use Rattle.day_table.specs.declared.table.DayTable.{DayTable}
use Rattle.ledger.specs.Calls.{lots_fit, after_parts, newest, variation_pay, part_pay, parts_pay}
use Rattle.ledger.specs.State.{Market, Row}
use Rattle.ledger.specs.Words.{all_below, at, or_zero}
use Rattle.std.proofs.lemmas.Bool.{cases_lt, cond-false}
use Rattle.std.proofs.lemmas.Int.{ints}
use Rattle.terms.proofs.Ranges.{all-pass}
use Rattle.terms.specs.Day.{Day}

-- no account holds more than its type allows
pub row-within : (xs : List Account) (a c : ℕ) → nat_abs ((rows_of xs a).lots c) ≤ 1000
row-within xs a c =
    ⊎_elim
    (λ (l : a < length xs). row-here (λ r. nat_abs (r.lots c) ≤ 1000) xs a l (λ d. (get_or xs a d).within c))
    (λ (l : length xs ≤ a). subst (λ r. nat_abs (r.lots c) ≤ 1000) (sym (rows-past xs a l)) (omega arith))
    (cases_lt a (length xs))

fits : (x : ℤ) → nat_abs x ≤ 1000 → lots_fit x ≡ true
fits x h = grind (arith, ints)

-- on a day on which no class has parts every account stays within the limit
pub all-keep : (t : DayTable) (xs : List Account) → Flagged t → t.some_parts ≡ false → all_below (length xs) (λ a. all_below t.classes (λ c. lots_fit (after_parts (day_in t) (rows_of xs a) c))) ≡ true
all-keep t xs flagged none =
    all-pass (length xs) _ (λ a l. all-pass t.classes _ (λ c h. ap lots_fit (no-parts t (rows_of xs a) c flagged none) ∙ fits ((rows_of xs a).lots c) (row-within xs a c)))

-- ---- what a close pays

quoted : (b : Bool) (q : ℕ) (t h l traded cost : ℤ) → variation (cond b q 0) t h l traded cost ≡ if_z b (variation q t h l traded cost)
quoted true q t h l traded cost = refl
quoted false q t h l traded cost = zero-*ℤ (t *ℤ h -ℤ l *ℤ (h -ℤ traded) -ℤ cost)

module _ (d : Day) (k : Market) (r : Row) (few : d.classes ≤ 12) where
  pub variations : (qs : List Quote) → ((c : ℕ) → c < 12 → quote_at qs c ≡ quote_on d k c) → sum_z d.classes (λ c. quote_pay (quote_at qs c) r c) ≡ sum_z d.classes (variation_pay d k r)
  variations qs e =
      sum_same d.classes _ (variation_pay d k r)
      (λ c l. ap (λ (q : Quote). quote_pay q r c) (e c (omega (arith, l, few))) ∙ quoted (d.tradable c) (d.quantity c) (or_zero (k.today c)) (r.lots c) (or_zero (k.last c)) (r.traded c) (r.cost c))

  pub parts : (xs : List ℤ) → ((c : ℕ) → c < 12 → at xs c ≡ or_zero (newest d k c)) → parts_pay_at d (at xs) r ≡ parts_pay d k r
  parts xs e =
      sum_same d.classes _ _ (λ c l. sum_same d.classes _ (part_pay d k r c)
      (λ p m. λ i. if_z (d.part c p) (part_payment (d.quantity p) (r.lots c) (e p (omega (arith, m, few)) i) (e c (omega (arith, l, few)) i))))

  pub no-parts-pay : ((c p : ℕ) → d.part c p ≡ false) → parts_pay d k r ≡ pos 0
  no-parts-pay none =
      sum-nil d.classes _ (λ c l. sum-nil d.classes (part_pay d k r c) (λ p m. cond-false (d.part c p) _ (pos 0) (none c p)))

pub nothing-more : (x y z : ℤ) → x ≡ y → z ≡ pos 0 → x ≡ y +ℤ z
nothing-more x y z e f = omega (arith, ints)
