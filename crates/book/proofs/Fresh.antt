-- A new book, and what an accepted make was asked. Assumes nothing.
use Rattle.std.proofs.Common.{◌≡◌, ℕ, zero, suc, ◌≤◌, true, ◌&&◌, leb, length, replicate, take, None, refl, ap, ◌∙◌, arith}
use Rattle.book.proofs.ClassLines.{lines-count, filled-first}
use Rattle.book.specs.Lines.{filled}
use Rattle.book.specs.Markets.{cents_in, prices_at}
use Rattle.book.specs.Rows.{rows_of}
use Rattle.book.specs.Tables.{state_of}
use Rattle.book.specs.declared.prices.Prices.{Prices}
use Rattle.book.specs.declared.tables.Tables.{Tables}
use Rattle.day_table.proofs.Columns.{day-number}
use Rattle.day_table.proofs.Tables.{table-day}
use Rattle.day_table.specs.Table.{table_of}
use Rattle.day_table.specs.declared.table.DayTable.{DayTable}
use Rattle.ledger.proofs.Tests.{ask-none}
use Rattle.ledger.specs.Make.{lines_fit, make_refusal}
use Rattle.ledger.specs.State.{Made, nil_row, new_state, start_day}
use Rattle.std.proofs.lemmas.Bool.{and_parts, leb-true}
use Rattle.terms.specs.Day.{Day}
use Rattle.terms.specs.Laws.{Laws}
use Rattle.terms.specs.Meaning.{Meaning}

-- what an accepted make was answered yes
pub record Accepted (w : Meaning) (m : Made) : Type 0 where
  pub few : m.accounts ≤ 32
  pub fit : lines_fit 0 w.classes m.lines ≡ true

pub was-accepted : (w : Meaning) (m : Made) → make_refusal w m ≡ None → Accepted w m
was-accepted w m q =
    let first = ask-none (leb 2 m.accounts && leb m.accounts 32) _ _ q in
    let second = ask-none (leb 12 m.month && leb m.month 1163) _ _ first.1 in
    record {
      few = leb-true m.accounts 32 (and_parts (leb 2 m.accounts) (leb m.accounts 32) first.0).1;
      fit = (ask-none (lines_fit 0 w.classes m.lines) _ _ second.1).0;
    }

pub few-lines : (w : Meaning) → Laws w → (m : Made) → make_refusal w m ≡ None → length m.lines ≤ 12
few-lines w law m q = omega (arith, law.twelve, lines-count 0 w.classes m.lines (was-accepted w m q).fit)

abbrev pub unpriced : Prices
unpriced = record { last = None; today = None; repriced = None }

-- nothing is priced
all-unpriced : (n c : ℕ) → prices_at (replicate n unpriced) c ≡ unpriced
all-unpriced zero c = refl
all-unpriced (suc n) zero = refl
all-unpriced (suc n) (suc c) = all-unpriced n c

module _ (w : Meaning) (law : Laws w) (m : Made) (q : make_refusal w m ≡ None) where
  pub new-tables : (day : DayTable) (t : Tables) → day ≡ table_of w (start_day w m.month) → t.month ≡ m.month → t.accepted ≡ 0 → length t.accounts.items ≡ m.accounts → ((a : ℕ) → rows_of t.accounts.items a ≡ nil_row) → t.prices ≡ replicate 12 unpriced → t.lines ≡ filled m.lines → state_of day t ≡ new_state w m
  new-tables day t read month none accounts rows prices lines =
      let classes : day.classes ≡ w.classes = ap (λ (d : DayTable). d.classes) read ∙ ap (λ (d : Day). d.classes) (table-day w law (start_day w m.month)) in
      let own : take day.classes t.lines ≡ m.lines = (λ i. take (classes i) (lines i)) ∙ filled-first w.classes m.lines (was-accepted w m q).fit in
      let price : (c : ℕ) → prices_at t.prices c ≡ unpriced = λ c. ap (λ ps. prices_at ps c) prices ∙ all-unpriced 12 c in
      λ i. record {
        made = record { month = month i; accounts = accounts i; lines = own i };
        market = record {
          day = day-number w day (start_day w m.month) read i;
          accepted = none i;
          last = λ c. cents_in (price c i).last;
          today = λ c. cents_in (price c i).today;
          repriced = λ c. cents_in (price c i).repriced;
        };
        rows = λ a. rows a i;
      }
