-- Where lots go at a close, by a table read off the terms. Assumes nothing.
use Rattle.std.proofs.Common.{◌≡◌, ℕ, ◌<◌, ◌≤◌, true, false, cond, not, leb, is_some, List, map, length, get_or, ℤ, pos, ◌+ℤ◌, Option, Some, None, sym, ap, ◌∙◌, subst, ⊎_elim, arith}
use Rattle.amounts.proofs.Sums.{sum-nil}
use Rattle.amounts.specs.SumsOfWhole.{if_z}
use Rattle.book.specs.Rows.{Known}
use Rattle.day_table.proofs.Tables.{read-day, all-stay, source-past, source-known}
use Rattle.day_table.specs.Table.{table_of, day_in}
use Rattle.day_table.specs.declared.table.DayTable.{DayTable}
use Rattle.ledger.specs.Calls.{after_parts, lots_fit, refusal, today}
use Rattle.ledger.specs.Ledger.{Keeps}
use Rattle.ledger.specs.State.{State}
use Rattle.ledger.specs.Words.{all_below, from}
use Rattle.ledger.specs.declared.call.Call.TheVariants.{Close}
use Rattle.ledger.proofs.Tests.{all-each, ask-none}
use Rattle.std.proofs.lemmas.Bool.{cases_lt, cases_Bool, cond-false}
use Rattle.std.proofs.lemmas.Int.{ints}
use Rattle.std.proofs.lemmas.List.{get_or_past}
use Rattle.std.proofs.lemmas.List.FromFn.{get_or-map-range_with_len, length-map-range_with_len}
use Rattle.std.specs.List.{range_with_len}
use Rattle.terms.proofs.Handovers.{any_at}
use Rattle.terms.proofs.Sources.{some-none, source_is}
use Rattle.terms.specs.Day.{Day, day_of}
use Rattle.terms.specs.Laws.{Laws}
use Rattle.terms.specs.Meaning.{Meaning, is_part, has_some_part, successor}

plus-nothing : (x y : ℤ) → y ≡ pos 0 → x +ℤ y ≡ x
plus-nothing x y e = omega (arith, ints)

module _ (w : Meaning) (law : Laws w) (t : DayTable) (n : ℕ) (e : t ≡ table_of w n) where
  abbrev d : Day
  d = day_of w n

  -- the classes that are succeeded, as a list
  pub sources-are : (xs : List (Option ℕ)) → xs ≡ map (day_in t).source (range_with_len 0 12) → (k : ℕ) → get_or xs k None ≡ d.source k
  sources-are xs q k =
      ⊎_elim
      (λ (l : k < 12). ap (λ l. get_or l k None) q ∙ get_or-map-range_with_len (day_in t).source 0 12 k k None l (omega arith) ∙ ap (λ (d : Day). d.source k) (read-day w law n t e))
      (λ (l : 12 ≤ k).
      get_or_past xs k None (subst (λ n. n ≤ k) (sym (ap length q ∙ length-map-range_with_len (day_in t).source 0 12)) l)
      ∙ sym (source-past w law n k (omega (arith, law.twelve, l))))
      (cases_lt k 12)

  pub sources-known : (xs : List (Option ℕ)) → xs ≡ map (day_in t).source (range_with_len 0 12) → Known t.classes xs
  sources-known xs q k c f =
      subst (λ (d : Day). c < d.classes) (sym (read-day w law n t e)) (source-known w law n k c (sym (sources-are xs q k) ∙ f))

  module _ (stay : t.all_stay ≡ true) where
    self : (c : ℕ) → c < w.classes → successor (w.on n c) ≡ Some c
    self c l = (source_is (λ c. successor (w.on n c)) c w.classes c (all-stay w law n (ap (λ (t : DayTable). t.all_stay) (sym e) ∙ stay) c l)).1

    no-whole : (c : ℕ) → c < w.classes → d.whole c ≡ false
    no-whole c l =
        ⊎_elim
        (λ (y : has_some_part (w.on n c) ≡ true). absurd (some-none (successor (w.on n c)) c (self c l) (law.whole n c y).1))
        (λ (y : has_some_part (w.on n c) ≡ false). y)
        (cases_Bool (has_some_part (w.on n c)))

    no-part : (b c : ℕ) → b < w.classes → c < w.classes → d.part b c ≡ false
    no-part b c l h =
        ⊎_elim
        (λ (y : is_part (w.on n b) c ≡ true).
        absurd (some-none (successor (w.on n b)) b (self b l) (law.whole n b (any_at 12 (is_part (w.on n b)) c (omega (arith, law.twelve, h)) y)).1))
        (λ (y : is_part (w.on n b) c ≡ false). y)
        (cases_Bool (is_part (w.on n b) c))

    -- where every class succeeds itself the lots of each class are its own afterwards
    pub lots-stay : (s : State) → Keeps w s → (a k : ℕ) → from (d.source k) (pos 0) (after_parts d (s.rows a)) ≡ (s.rows a).lots k
    lots-stay s keeps a k =
        ⊎_elim
        (λ (l : k < w.classes).
        ap (λ o. from o (pos 0) (after_parts d (s.rows a))) (all-stay w law n (ap (λ (t : DayTable). t.all_stay) (sym e) ∙ stay) k l)
        ∙ cond-false (d.whole k) (pos 0) _ (no-whole k l)
        ∙ plus-nothing ((s.rows a).lots k) _ (sum-nil w.classes (λ b. if_z (d.part b k) ((s.rows a).lots b)) (λ b h. cond-false (d.part b k) ((s.rows a).lots b) (pos 0) (no-part b k h l))))
        (λ (l : w.classes ≤ k). ap (λ o. from o (pos 0) (after_parts d (s.rows a))) (source-past w law n k l) ∙ sym (keeps.beyond a k l))
        (cases_lt k w.classes)

-- every account stays within the limit after the parts, where a close is accepted
pub kept : (w : Meaning) (s : State) (room : ℕ) → refusal w s (Close room) ≡ None → (a : ℕ) → a < s.made.accounts → all_below w.classes (λ c. lots_fit (after_parts (today w s) (s.rows a) c)) ≡ true
kept w s room q a l =
    let q1 = ask-none (leb s.made.accounts room) _ _ q in
    let q2 = ask-none (all_below w.classes (λ c. cond ((today w s).tradable c) (is_some (s.market.today c)) true)) _ _ q1.1 in
    let q3 = ask-none (cond (today w s).taken_over (not (is_some (s.market.last w.settling))) true) _ _ q2.1 in
    let q4 = ask-none (all_below s.made.accounts (λ a. all_below w.classes (λ c. lots_fit (after_parts (today w s) (s.rows a) c)))) _ _ q3.1 in
    all-each s.made.accounts (λ a. all_below w.classes (λ c. lots_fit (after_parts (today w s) (s.rows a) c))) q4.0 a l
