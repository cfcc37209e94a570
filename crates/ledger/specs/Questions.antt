-- The calls that only ask: margins, holding and cash; and the payment lists of settle and close. Assumes nothing.
use Rattle.std.specs.Prelude.{ℕ, Bool, true, cond, List, ◌++◌, map, get_or, drop, ℤ, ◌+ℤ◌, is_some, Some, None, Option, ◌==◌, nat_lt, unsigned_abs, pos}
use Rattle.amounts.specs.Amounts.{class_margin, repricing_addition, total_margin}
use Rattle.amounts.specs.SumsOfWhole.{sum_z}
use Rattle.coded.specs.Places.{place}
use Rattle.coded.specs.declared.class_line.ClassLine.{ClassLine}
use Rattle.ledger.specs.Calls.{known, paid, refusal}
use Rattle.ledger.specs.State.{State, class_now, quantity_now}
use Rattle.ledger.specs.Words.{ask, all_below, or_zero, from, unless}
use Rattle.ledger.specs.declared.call.Call.{Call}
use Rattle.ledger.specs.declared.call.Call.TheVariants.{Trade, Mark, Reprice, Settle, Close}
use Rattle.ledger.specs.declared.fault.Fault.{Fault}
use Rattle.ledger.specs.declared.fault.Fault.TheVariants.{UnknownAccount, HeldUnpriced, UnknownClass}
use Rattle.ledger.specs.declared.payment.Payment.{Payment}
use Rattle.std.specs.List.{range_with_len}
use Rattle.terms.specs.Meaning.{Meaning}
use Rattle.terms.specs.declared.class_terms.ClassTerms.{ClassTerms}

-- ---- margins

-- every class that the account holds has a last price
abbrev pub held_priced : Meaning → State → ℕ → Bool
held_priced w s a = all_below w.classes (λ c. cond (unsigned_abs ((s.rows a).lots c) == 0) true (is_some (s.market.last c)))

abbrev pub margins_refusal : Meaning → State → ℕ → Option Fault
margins_refusal w s a = ask (known s a) UnknownAccount (ask (held_priced w s a) HeldUnpriced None)

-- the interval on the line of a class
abbrev pub line_interval : List ClassLine → ℕ → ℕ
line_interval lines c =
    from (place (map (λ l. l.class) lines) c) 0 (λ i. (get_or lines i (record { class = 0; interval = 0 })).interval)

-- the interval of the class whose interval a class takes that day
abbrev pub interval_of : List ClassLine → Option ClassTerms → ℕ
interval_of lines None = 0
interval_of lines (Some t) = line_interval lines t.interval_class

-- the price for margins, and what a repricing adds
abbrev pub margin_price : Option ℤ → Option ℤ → ℤ
margin_price None last = or_zero last
margin_price (Some p) last = p

abbrev pub repricing_of : Option ℤ → Option ℤ → ℕ → ℤ → ℤ
repricing_of None last q h = pos 0
repricing_of (Some p) last q h = repricing_addition q h p (or_zero last)

-- the margin of lots in a class, from its repricing and last price, interval and quantity
abbrev pub margin_of : Option ℤ → Option ℤ → ℕ → ℕ → ℤ → ℤ
margin_of repriced last i q h = class_margin (margin_price repriced last) i q h +ℤ repricing_of repriced last q h

-- an account's margin in a class
abbrev pub margin_in : Meaning → State → ℕ → ℕ → ℤ
margin_in w s a c =
    margin_of (s.market.repriced c) (s.market.last c) (interval_of s.made.lines (class_now w s c)) (quantity_now w s c) ((s.rows a).lots c)

abbrev pub margins : Meaning → State → ℕ → ℤ
margins w s a = total_margin (sum_z w.classes (margin_in w s a))

-- ---- holding and cash

abbrev pub holding_refusal : Meaning → State → ℕ → ℕ → Option Fault
holding_refusal w s a c = ask (known s a) UnknownAccount (ask (nat_lt c w.classes) UnknownClass None)

abbrev pub holding : State → ℕ → ℕ → ℤ
holding s a c = (s.rows a).lots c

abbrev pub cash_refusal : State → ℕ → Option Fault
cash_refusal s a = ask (known s a) UnknownAccount None

abbrev pub cash : State → ℕ → ℤ
cash s a = (s.rows a).cash

-- ---- payment lists

-- the lines that a call writes: one for each account, in account order, with the cents that the call paid it
abbrev pub payment_lines : ℕ → (ℕ → ℤ) → List Payment
payment_lines n pays = map (λ a. record { account = a; cents = pays a }) (range_with_len 0 n)

-- a payment list afterwards: further lines are untouched
abbrev pub written : List Payment → ℕ → (ℕ → ℤ) → List Payment
written list n pays = payment_lines n pays ++ drop n list

-- an accepted settle and an accepted close write into the list, the other calls do not
abbrev pub list_done : Meaning → State → Call → List Payment → List Payment
list_done w s (Trade buyer seller c n p) list = list
list_done w s (Mark c p) list = list
list_done w s (Reprice c p) list = list
list_done w s (Settle f room) list = written list s.made.accounts (paid w s (Settle f room))
list_done w s (Close room) list = written list s.made.accounts (paid w s (Close room))

-- a payment list after any call: a refusal leaves it as it was
abbrev pub list_after : Meaning → State → Call → List Payment → List Payment
list_after w s call list = unless (refusal w s call) (list_done w s call list) list
