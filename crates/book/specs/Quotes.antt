-- What a close multiplies with. Assumes nothing.
use Rattle.std.specs.Prelude.{ℕ, ◌≤◌, cond, List, ℤ, pos, unsigned_abs, slice_index_or}
use Rattle.amounts.specs.Amounts.{variation}
use Rattle.book.specs.declared.quotes.Quote.{Quote}
use Rattle.ledger.specs.State.{Market, Row}
use Rattle.ledger.specs.Words.{or_zero}
use Rattle.terms.specs.Day.{Day}

-- a class in a list of quotes, and one without a quantity past its end
abbrev pub quote_at : List Quote → ℕ → Quote
quote_at qs c = slice_index_or qs c (record { quantity = 0; today = pos 0; last = pos 0 })

-- a class on a day: without a quantity where it is not tradable
abbrev pub quote_on : Day → Market → ℕ → Quote
quote_on d k c = record {
  quantity = cond (d.tradable c) (d.quantity c) 0;
  today = or_zero (k.today c);
  last = or_zero (k.last c);
}

-- the variation margin of a row in a class by its quote
abbrev pub quote_pay : Quote → Row → ℕ → ℤ
quote_pay q r c = variation q.quantity q.today (r.lots c) q.last (r.traded c) (r.cost c)

-- quantities and prices in range
pub record SmallQuote (q : Quote) : Type 0 where
  pub quantity : q.quantity ≤ 8940
  pub today : unsigned_abs q.today ≤ 100000
  pub last : unsigned_abs q.last ≤ 100000

abbrev pub SmallQuotes : List Quote → Type 0
SmallQuotes qs = (c : ℕ) → SmallQuote (quote_at qs c)
