-- The rules on a market's day, by the terms. Assumes nothing.
use Rattle.std.proofs.Common.{ℕ, ℤ, pos, ◌+ℤ◌, ◌*ℤ◌, ◌==◌, Option}
use Rattle.amounts.specs.SumsOfWhole.{sum_z, if_z}
use Rattle.ledger.specs.Calls
use Rattle.ledger.specs.State.{Market, Row}
use Rattle.ledger.specs.declared.call.Call.{Call}
use Rattle.ledger.specs.declared.call.Call.TheVariants.{Trade, Mark, Reprice, Settle, Close}
use Rattle.terms.specs.Day.{day_of, next_day}
use Rattle.terms.specs.Meaning.{Meaning, has, class_quantity}
use Rattle.terms.specs.declared.class_terms.ClassTerms.{ClassTerms}

abbrev pub class_on : Meaning → Market → ℕ → Option ClassTerms
class_on w k c = w.on k.day c

abbrev pub quantity_on : Meaning → Market → ℕ → ℕ
quantity_on w k c = class_quantity w (class_on w k c)

abbrev pub source_of : Meaning → Market → ℕ → Option ℕ
source_of w k t = (day_of w k.day).source t

abbrev pub newest : Meaning → Market → ℕ → Option ℤ
newest w k = Calls.newest (day_of w k.day) k

abbrev pub market_done : Meaning → Market → Call → Market
market_done w k = Calls.market_done (day_of w k.day) (day_of w (next_day w k.day)) k

abbrev pub market_closed : Meaning → Market → Market
market_closed w k = Calls.market_closed (day_of w k.day) (day_of w (next_day w k.day)) k

abbrev pub settle_pay : Meaning → Market → ℤ → Row → ℤ
settle_pay w k = Calls.settle_pay (day_of w k.day) k

abbrev pub row_settled : Meaning → Market → ℤ → Row → Row
row_settled w k = Calls.row_settled (day_of w k.day) k

abbrev pub variation_pay : Meaning → Market → Row → ℕ → ℤ
variation_pay w k = Calls.variation_pay (day_of w k.day) k

abbrev pub part_pay : Meaning → Market → Row → ℕ → ℕ → ℤ
part_pay w k = Calls.part_pay (day_of w k.day) k

abbrev pub close_pay : Meaning → Market → Row → ℤ
close_pay w k = Calls.close_pay (day_of w k.day) k

abbrev pub after_parts : Meaning → Market → Row → ℕ → ℤ
after_parts w k = Calls.after_parts (day_of w k.day)

abbrev pub row_closed : Meaning → Market → Row → Row
row_closed w k = Calls.row_closed (day_of w k.day) k

abbrev pub row_done : Meaning → Market → Call → ℕ → Row → Row
row_done w k = Calls.row_done (day_of w k.day) k

-- what a row holds in a month on the market's day
abbrev pub held : Meaning → Market → Row → ℕ → ℤ
held w k r m = sum_z w.classes (λ c. if_z (has (class_on w k c) m) (r.lots c))

-- ---- rows add up, place by place: a row x times over, and a further one

abbrev pub more : ℤ → Row → Row → Row
more x r s = record {
  lots = λ c. x *ℤ r.lots c +ℤ s.lots c;
  traded = λ c. x *ℤ r.traded c +ℤ s.traded c;
  cost = λ c. x *ℤ r.cost c +ℤ s.cost c;
  cash = x *ℤ r.cash +ℤ s.cash;
}

-- one lot of a class bought at a price
abbrev pub one_lot : ℕ → ℤ → Row
one_lot c p = record { lots = λ i. if_z (i == c) (pos 1); traded = λ i. if_z (i == c) (pos 1); cost = λ i. if_z (i == c) p; cash = pos 0 }

-- what a call makes of a row that is no party to it
abbrev pub moved : Meaning → Market → Call → Row → Row
moved w k (Trade buyer seller c n p) r = r
moved w k (Mark c p) r = r
moved w k (Reprice c p) r = r
moved w k (Settle f room) r = row_settled w k f r
moved w k (Close room) r = row_closed w k r
