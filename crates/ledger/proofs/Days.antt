-- The day on which a book starts, and the next open day. Assumes nothing.
use Rattle.std.proofs.Common.{◌≡◌, ℕ, zero, suc, ◌+◌, ◌-◌, ◌<◌, ◌≤◌, Bool, true, false, cond, ltb, leb, Some, None, Option, unwrap_or, sym, refl, ap, ◌∙◌, subst, ⊎_elim, arith}
use Rattle.calendars.specs.Counts.{before-rises, before-flat}
use Rattle.calendars.proofs.Firsts.{none_found}
use Rattle.calendars.specs.Walks.{first_from, NoneIn, First, Next, next_after}
use Rattle.dates.proofs.MonthLaws.{start-next, start-rises}
use Rattle.dates.specs.Dates.{start, days_in}
use Rattle.std.proofs.lemmas.Bool.{cases_lt, cond-true, false≢true, and_parts, and_from, ltb-true, leb-true, lt-ltb, le-leb}
use Rattle.terms.specs.Laws.{Laws}
use Rattle.terms.specs.Meaning.{Meaning, answers}
use Rattle.ledger.specs.Calls.{by_end}
use Rattle.ledger.specs.State.{start_day}
use Rattle.terms.specs.Day.{next_day}
use Rattle.ledger.proofs.Tests.{some-none}

-- what a walk finds is the first day of the set
pub first_found : (f : ℕ → Bool) (n a d : ℕ) → first_from f a n ≡ Some d → First f a (a + n) d
unfolding first_from
first_found f zero a d e = absurd (some-none (Some d) d refl (sym e))
first_found f (suc n) a d e = step (f a) refl e (first_found f n (suc a) d)
  where
    step : (b : Bool) → f a ≡ b → cond b (Some a) (first_from f (suc a) n) ≡ Some d → (first_from f (suc a) n ≡ Some d → First f (suc a) (suc a + n) d) → First f a (a + suc n) d
    step true t q rest =
        let z : a ≡ d = cc in
        record { from = omega arith; to = omega arith; inside = ap f (sym z) ∙ t; none = λ k l u. absurd (omega arith) }
    step false t q rest =
        let r = rest q in
        record {
          from = omega (arith, r.from);
          to = omega (arith, r.to);
          inside = r.inside;
          none = λ k l u. ⊎_elim (λ (x : a < k). r.none k x u) (λ (x : k ≤ a). let z : k ≡ a = omega arith in ap f z ∙ t) (cases_lt a k);
        }

is-answered : (w : Meaning) (d : ℕ) → 366 ≤ d → d < 35430 → w.opens d ≡ true → answers w d ≡ true
is-answered w d low high e = and_from (leb 366 d) _ (le-leb 366 d low) (and_from (ltb d 35430) _ (lt-ltb d 35430 high) e)

-- where the next open day comes by the end of 2096, it is the next open day
pub record Onward (w : Meaning) (d : ℕ) : Type 0 where
  pub next : Next w.opens d (next_day w d)
  pub soon : next_day w d < 35430

pub onward : (w : Meaning) (d : ℕ) → by_end (next_after w.opens d) ≡ true → Onward w d
onward w d = by (next_after w.opens d) refl
  where
    by : (o : Option ℕ) → next_after w.opens d ≡ o → by_end o ≡ true → Onward w d
    by None e q = absurd (false≢true q)
    by (Some x) e q =
        let r = first_found w.opens (36525 - (d + 1)) (d + 1) x e in
        let z : next_day w d ≡ x = ap (λ o. unwrap_or o 0) e in
        record {
          next = subst (λ y. Next w.opens d y) (sym z) (record { after = omega (arith, r.from); inside = r.inside; none = λ k l u. r.none k (omega arith) u });
          soon = omega (arith, ltb-true x 35430 q);
        }

pub next-answered : (w : Meaning) (d : ℕ) → answers w d ≡ true → Onward w d → answers w (next_day w d) ≡ true
next-answered w d e o =
    let low = leb-true 366 d (and_parts (leb 366 d) _ e).0 in
    is-answered w (next_day w d) (omega (arith, low, o.next.after)) o.soon o.next.inside

-- the first month of 2001, and the first of 2097
start-2001 : start 12 ≡ 366
unfolding start
start-2001 = refl

start-2097 : start 1164 ≡ 35430
unfolding start
start-2097 = refl

-- every month has an open day, so a book starts on an answered day
pub start-answered : (w : Meaning) → Laws w → (m : ℕ) → 12 ≤ m → m ≤ 1163 → answers w (start_day w m) ≡ true
start-answered w law m low high = by (first_from w.opens (start m) (days_in m)) refl
  where
    read : (o : Option ℕ) → first_from w.opens (start m) (days_in m) ≡ o → start_day w m ≡ unwrap_or o 0
    read o e = ap (λ x. unwrap_or x 0) (cond-true (ltb m 1200) (first_from w.opens (start m) (days_in m)) None (lt-ltb m 1200 (omega arith)) ∙ e)

    by : (o : Option ℕ) → first_from w.opens (start m) (days_in m) ≡ o → answers w (start_day w m) ≡ true
    by None e =
        let none : NoneIn w.opens (start m) (start (m + 1)) = λ k l u. none_found w.opens (days_in m) (start m) e k l (omega (arith, start-next m)) in
        let flat = before-flat w.opens (start m) (start (m + 1)) (omega (arith, start-next m)) none in
        absurd (omega (arith, law.calendar.four m (omega arith), flat, before-rises w.opens (start m) (start m + 9) (omega arith)))
    by (Some d) e =
        let r = first_found w.opens (days_in m) (start m) d e in
        ap (answers w) (read (Some d) e)
        ∙ is-answered w d (omega (arith, r.from, start-rises 12 m low, start-2001)) (omega (arith, r.to, start-next m, start-rises (m + 1) 1164 (omega arith), start-2097)) r.inside
