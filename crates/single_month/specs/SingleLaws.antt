-- The product keeps the laws of terms, over every calendar. Assumes nothing.
use Rattle.std.specs.Prelude.{◌≡◌, ℕ, ◌+◌, ◌<◌, Bool, ◌==◌, refl}
use Rattle.std.proofs.Common.{ap, ⊎_elim, arith, lit≤}
use Rattle.std.proofs.lemmas.Bool.{cases_lt, false≢true}
use Rattle.std.proofs.lemmas.Bool.Decides.{nat_tests}
use Rattle.calendars.proofs.Steps.{next-same, next-turn}
use Rattle.calendars.specs.Calendars.{Lawful}
use Rattle.calendars.specs.Walks.{left, Next}
use Rattle.dates.proofs.MonthLaws.{days-bounds}
use Rattle.dates.specs.Dates.{days_in, month_of}
use Rattle.single_month.specs.Single.{chain, class_in, single}
use Rattle.terms.proofs.Chains.{moved, apart}
use Rattle.terms.proofs.Listings.{no_part, answered-month, Kept, laws}
use Rattle.terms.specs.Laws.{Laws}
use Rattle.terms.specs.Meaning.{one}
use Rattle.terms.specs.declared.class_terms.Months.{Months}

abbrev month_at : ℕ → Months
month_at m = record { first = m; count = 1 }

module _ (f : ℕ → Bool) (law : Lawful f) where
  -- classes move up after the last open day of a month
  abbrev turns : ℕ → Bool
  turns d = left f d == 0

  -- the one fact on days that it takes: just then the next open day lies in the next month
  month-next : (d e : ℕ) → Next f d e → month_of d + 1 < 1200 → month_of e ≡ month_of d + one (turns d)
  month-next d e n h =
      ⊎_elim (λ (l : 0 < left f d). let s = next-same f d e n l in grind (arith, nat_tests))
      (λ l. let z : left f d ≡ 0 = omega arith in let t = next-turn f d e n law.four z h in grind (arith, nat_tests))
      (cases_lt 0 (left f d))

  -- each law, asked of a class c below 2 on a day d for which terms answer
  kept : Kept f 2 1 days_in (λ d. class_in (month_of d) (left f d))
  kept = record {
    two = lit≤ tt;
    twelve = lit≤ tt;
    settles = lit≤ tt;
    calendar = law;
    quantities = λ m h. let b = days-bounds m in (omega arith, omega arith);
    ranges = λ d c a h. record {
      some = lit≤ tt;
      few = lit≤ tt;
      last = let m = answered-month f d a in grind (arith, nat_tests);
      interval = h;
      width = refl;
      parts = λ p e. absurd (no_part 12 p e);
      six = lit≤ tt;
      next = λ s e. (moved chain refl (λ _. 0) (λ _. one (turns d)) (λ _. turns d) c s h (omega arith) e).0;
    };
    -- 1. There are no parts.
    whole = λ d c a h e. absurd (false≢true e);
    part = λ d c p a h l e. absurd (no_part 12 p e);
    cover = λ d c m a h e. absurd (false≢true e);
    -- 2. Class 0 always has a successor, and class 1 unless class 0 succeeds to it. A successor has the same month: moving
    -- up in a chain keeps it, since the chain moves on with the month. That the chain is one is computed, by `refl`.
    lasting = λ d c a h ne _ q. grind (arith, nat_tests);
    same = λ d c s e a h q n l.
        let m = answered-month f d a in
        ap month_at (moved chain refl (λ _. month_of d) (λ _. month_of e) (λ _. turns d) c s h (month-next d e n (omega arith)) q).2;
    stays = λ d a. grind (arith, nat_tests);
    -- 3. No two classes of a chain have the same successor.
    apart = λ d c e s a h l p q. apart chain refl (λ _. turns d) c e s h l p q;
    -- 4. Class 1 is not tradable, and class 0 has the month after its month.
    untraded = λ d a. refl;
    later = λ d c a h ne. grind (arith, nat_tests);
  }

  pub single-laws : Laws (single f)
  single-laws = laws f 2 1 days_in (λ d. class_in (month_of d) (left f d)) kept
