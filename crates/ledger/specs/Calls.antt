-- The calls: the questions in their order, and what an accepted call makes of the market and of an account's row.
-- Assumes nothing.
use Rattle.std.specs.Prelude.{ℕ, ◌+◌, Bool, true, false, cond, not, ◌&&◌, ℤ, pos, negsuc, ◌+ℤ◌, ◌-ℤ◌, ◌*ℤ◌, is_some, Some, None, Option, ◌==◌, nat_le, nat_lt}
use Rattle.amounts.specs.Amounts.{variation, part_payment, final_payment}
use Rattle.amounts.specs.SumsOfWhole.{sum_z, if_z}
use Rattle.terms.specs.Day.{Day, day_of, next_day}
use Rattle.ledger.specs.State.{Market, Row, State}
use Rattle.ledger.specs.Words.{ask, all_below, within, or_zero, put, from, unless, share}
use Rattle.ledger.specs.declared.call.Call.{Call}
use Rattle.ledger.specs.declared.call.Call.TheVariants.{Trade, Mark, Reprice, Settle, Close}
use Rattle.ledger.specs.declared.fault.Fault.{Fault}
use Rattle.ledger.specs.declared.fault.Fault.TheVariants.{UnknownAccount, SameAccount, NotTradable, LotsOutOfRange, PriceOutOfRange, TooManyTrades, HoldingOutOfRange, NotRepriceable, ListTooShort, NothingToSettle, CashOutOfRange, ClassUnpriced, SettlingUnsettled, PartsOutOfRange, NoDayLeft}
use Rattle.terms.specs.Meaning.{Meaning}

-- ---- ranges

abbrev pub known : State → ℕ → Bool
known s a = nat_lt a s.made.accounts

abbrev pub lots_fit : ℤ → Bool
lots_fit x = within (negsuc 999) (pos 1000) x

abbrev pub price_fits : ℤ → Bool
price_fits p = within (negsuc 99999) (pos 100000) p

abbrev pub cash_fits : ℤ → Bool
cash_fits x = within (negsuc 8999999999999999999) (pos 9000000000000000000) x

abbrev pub by_end : Option ℕ → Bool
by_end None = false
by_end (Some d) = nat_lt d 35430

-- a test passes for the row of each account
abbrev pub all_rows : State → (Row → Bool) → Bool
all_rows s f = all_below s.made.accounts (λ a. f (s.rows a))

-- ---- trade

-- a row with x lots more of a class at a price
abbrev pub row_traded : ℕ → ℤ → ℤ → Row → Row
row_traded c p x r = record r {
  lots = λ i. r.lots i +ℤ if_z (i == c) x;
  traded = λ i. r.traded i +ℤ if_z (i == c) x;
  cost = λ i. r.cost i +ℤ if_z (i == c) (x *ℤ p);
}

abbrev pub trade_refusal : Day → State → ℕ → ℕ → ℕ → ℤ → ℤ → Option Fault
trade_refusal d s buyer seller c n p =
    ask (known s buyer && known s seller) UnknownAccount
    (ask (not (buyer == seller)) SameAccount
    (ask (d.tradable c) NotTradable
    (ask (within (pos 1) (pos 1000) n) LotsOutOfRange
    (ask (price_fits p) PriceOutOfRange
    (ask (nat_lt s.market.accepted 100000) TooManyTrades
    (ask (lots_fit ((s.rows buyer).lots c +ℤ n) && lots_fit ((s.rows seller).lots c -ℤ n)) HoldingOutOfRange None))))))

-- ---- mark and reprice

abbrev pub mark_refusal : Day → ℕ → ℤ → Option Fault
mark_refusal d c p = ask (d.tradable c) NotTradable (ask (price_fits p) PriceOutOfRange None)

abbrev pub reprice_refusal : Day → Market → ℕ → ℤ → Option Fault
reprice_refusal d k c p =
    ask (nat_lt c d.classes && (not (d.tradable c) && is_some (k.last c))) NotRepriceable
    (ask (price_fits p) PriceOutOfRange None)

-- ---- settle

-- what a row is paid: against the last price, never the repricing
abbrev pub settle_pay : Day → Market → ℤ → Row → ℤ
settle_pay d k f r = final_payment (d.quantity d.settling) (r.lots d.settling) f (or_zero (k.last d.settling))

abbrev pub row_settled : Day → Market → ℤ → Row → Row
row_settled d k f r = record r { lots = put r.lots d.settling (pos 0); cash = r.cash +ℤ settle_pay d k f r }

abbrev pub settle_refusal : Day → State → ℤ → ℕ → Option Fault
settle_refusal d s f room =
    ask (nat_le s.made.accounts room) ListTooShort
    (ask (is_some (s.market.last d.settling)) NothingToSettle
    (ask (price_fits f) PriceOutOfRange
    (ask (all_rows s (λ r. cash_fits (row_settled d s.market f r).cash)) CashOutOfRange None)))

-- ---- close

-- the last price of a class once the day's prices have become the last ones
abbrev pub newest : Day → Market → ℕ → Option ℤ
newest d k c = cond (d.tradable c) (k.today c) (k.last c)

-- first each tradable class pays its variation margin
abbrev pub variation_pay : Day → Market → Row → ℕ → ℤ
variation_pay d k r c =
    if_z (d.tradable c) (variation (d.quantity c) (or_zero (k.today c)) (r.lots c) (or_zero (k.last c)) (r.traded c) (r.cost c))

-- then a class with parts pays for each of them, by the part's quantity
abbrev pub part_pay : Day → Market → Row → ℕ → ℕ → ℤ
part_pay d k r c p =
    if_z (d.part c p) (part_payment (d.quantity p) (r.lots c) (or_zero (newest d k p)) (or_zero (newest d k c)))

-- what a row is paid for the parts, over all classes
abbrev pub parts_pay : Day → Market → Row → ℤ
parts_pay d k r = sum_z d.classes (λ c. sum_z d.classes (part_pay d k r c))

abbrev pub close_pay : Day → Market → Row → ℤ
close_pay d k r = sum_z d.classes (variation_pay d k r) +ℤ parts_pay d k r

-- a class with parts gives its lots to each part and is emptied
abbrev pub after_parts : Day → Row → ℕ → ℤ
after_parts d r c = cond (d.whole c) (pos 0) (r.lots c +ℤ sum_z d.classes (λ e. if_z (d.part e c) (r.lots e)))

-- lots move to the successor, and a class nobody succeeds to starts empty; the day's trades are done
abbrev pub row_closed : Day → Market → Row → Row
row_closed d k r = record {
  lots = λ t. from (d.source t) (pos 0) (after_parts d r);
  traded = λ c. pos 0;
  cost = λ c. pos 0;
  cash = r.cash +ℤ close_pay d k r;
}

-- last price and repricing move to the successor; a class nobody succeeds to has no price; a repricing lapses where its
-- class becomes tradable on the next day
abbrev pub market_closed : Day → Day → Market → Market
market_closed d next k = record k {
  day = next.day;
  last = λ t. from (d.source t) None (newest d k);
  today = λ c. None;
  repriced = λ t. cond (next.tradable t) None (from (d.source t) None k.repriced);
}

abbrev pub close_refusal : Day → State → ℕ → Option Fault
close_refusal d s room =
    ask (nat_le s.made.accounts room) ListTooShort
    (ask (all_below d.classes (λ c. cond (d.tradable c) (is_some (s.market.today c)) true)) ClassUnpriced
    (ask (cond d.taken_over (not (is_some (s.market.last d.settling))) true) SettlingUnsettled
    (ask (all_rows s (λ r. all_below d.classes (λ c. lots_fit (after_parts d r c)))) PartsOutOfRange
    (ask (by_end d.next) NoDayLeft
    (ask (all_rows s (λ r. cash_fits (row_closed d s.market r).cash)) CashOutOfRange None)))))

-- ---- any call

-- the first question that is answered no
abbrev pub refusal_on : Day → State → Call → Option Fault
refusal_on d s (Trade buyer seller c n p) = trade_refusal d s buyer seller c n p
refusal_on d s (Mark c p) = mark_refusal d c p
refusal_on d s (Reprice c p) = reprice_refusal d s.market c p
refusal_on d s (Settle f room) = settle_refusal d s f room
refusal_on d s (Close room) = close_refusal d s room

-- what an accepted call makes of the market, on a day before another one: no row enters
abbrev pub market_done : Day → Day → Market → Call → Market
market_done d next k (Trade buyer seller c n p) = record k { accepted = k.accepted + 1 }
market_done d next k (Mark c p) = record k { today = put k.today c (Some p) }
market_done d next k (Reprice c p) = record k { repriced = put k.repriced c (Some p) }
market_done d next k (Settle f room) = record k { last = put k.last d.settling None; repriced = put k.repriced d.settling None }
market_done d next k (Close room) = market_closed d next k

-- what it makes of an account's row: no other row enters
abbrev pub row_done : Day → Market → Call → ℕ → Row → Row
row_done d k (Trade buyer seller c n p) a r = row_traded c p (share buyer seller n a) r
row_done d k (Mark c p) a r = r
row_done d k (Reprice c p) a r = r
row_done d k (Settle f room) a r = row_settled d k f r
row_done d k (Close room) a r = row_closed d k r

-- the cents that it pays into a row
abbrev pub paid_on : Day → Market → Call → Row → ℤ
paid_on d k (Trade buyer seller c n p) r = pos 0
paid_on d k (Mark c p) r = pos 0
paid_on d k (Reprice c p) r = pos 0
paid_on d k (Settle f room) r = settle_pay d k f r
paid_on d k (Close room) r = close_pay d k r

-- ---- on the book's day

abbrev pub today : Meaning → State → Day
today w s = day_of w s.market.day

abbrev pub tomorrow : Meaning → State → Day
tomorrow w s = day_of w (next_day w s.market.day)

abbrev pub refusal : Meaning → State → Call → Option Fault
refusal w s call = refusal_on (today w s) s call

abbrev pub done : Meaning → State → Call → State
done w s call = record s {
  market = market_done (today w s) (tomorrow w s) s.market call;
  rows = λ a. row_done (today w s) s.market call a (s.rows a);
}

-- a refusal changes nothing
abbrev pub after : Meaning → State → Call → State
after w s call = unless (refusal w s call) (done w s call) s

-- the cents that an accepted call pays an account
abbrev pub paid : Meaning → State → Call → ℕ → ℤ
paid w s call a = paid_on (today w s) s.market call (s.rows a)
