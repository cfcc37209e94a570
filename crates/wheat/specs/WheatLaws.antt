-- Durum wheat keeps the laws of terms over every calendar, and the law of T01. Assumes nothing.
use Rattle.std.specs.Prelude.{◌≡◌, ℕ, ◌+◌, ◌-◌, ◌<◌, ◌≤◌, Bool, true, false, cond, not, ◌&&◌, ◌||◌, leb, is_some, Some, None, Option, MatchOption, ◌==◌, ◌≢◌, nat_le, refl}
use Rattle.std.proofs.Common.{sym, ap, subst, ◌∙◌, ⊎_elim, arith, lit≤}
use Rattle.std.proofs.lemmas.Bool.{cond_both, cond-true, cond-false, false≢true, both_ways, and_parts, or_cases, eqb-true, leb-true, eq-eqb, ne_eqb}
use Rattle.dates.specs.Dates.{start}
use Rattle.dates.proofs.Below.{at}
use Rattle.calendars.specs.Calendars.{Lawful}
use Rattle.calendars.specs.Walks.{First}
use Rattle.terms.specs.Chain.{moves_up}
use Rattle.terms.specs.Laws.{Laws, names}
use Rattle.terms.specs.Meaning.{answers, any_below, one, months_of, successor}
use Rattle.terms.specs.declared.class_terms.Months.{Months}
use Rattle.terms.proofs.Chains.{moved, apart}
use Rattle.terms.proofs.Listings.{no_part, answered-day, Kept, laws, on-answered}
use Rattle.wheat.specs.Wheat.{expiry_month, tenth, last_day, front_expiry, wheat_chain, wheat_class, wheat, FrontIsFirstNotPast}
use Rattle.wheat.specs.ExpiryMonths.{expiry-near}
use Rattle.wheat.specs.LastDays.{last-is, last-told}
use Rattle.wheat.specs.FrontLaws.{front-bounds, front-past, front-ahead, front-next}

-- every class but DEL stands after DEL, and has a class before it
abbrev after_delivery : ℕ → Bool
after_delivery c = c == 5 || (nat_le 1 (wheat_chain.place c) && is_some (wheat_chain.earlier c))

after-delivery : (c : ℕ) → c < 6 → (c ≢ 5) → (1 ≤ wheat_chain.place c) × (is_some (wheat_chain.earlier c) ≡ true)
after-delivery c h ne =
    ⊎_elim (λ e. absurd (ne (eqb-true c 5 e))) (λ e. let t = and_parts _ _ e in (leb-true 1 _ t.0, t.1))
    (or_cases (c == 5) _ (at after_delivery 6 refl c h))

place-most : (c : ℕ) → c < 6 → wheat_chain.place c ≤ 5
place-most c h = leb-true _ 5 (at (λ c. leb (wheat_chain.place c) 5) 6 refl c h)

some-stays : (b : Bool) (o : Option ℕ) (c : ℕ) → is_some o ≡ true → is_some (moves_up b o c) ≡ true
some-stays true o c e = e
some-stays false o c e = refl

delivery-stays : (b : Bool) → moves_up b (wheat_chain.earlier 5) 5 ≡ cond (any_below 6 (λ c. not (c == 5) && names (moves_up b (wheat_chain.earlier c) c) 5)) None (Some 5)
delivery-stays true = refl
delivery-stays false = refl

module _ (f : ℕ → Bool) (law : Lawful f) where
  abbrev lasts : ℕ → Bool
  lasts d = last_day f (front_expiry f d) == d

  abbrev month_at : ℕ → Months
  month_at n = record { first = expiry_month (n - 1); count = 1 }

  kept : Kept f 6 5 (λ _. 50) (wheat_class f)
  kept = record {
    two = lit≤ tt;
    twelve = lit≤ tt;
    settles = lit≤ tt;
    calendar = law;
    quantities = λ m h. (lit≤ tt, lit≤ tt);
    ranges = λ d c a h. record {
      some = lit≤ tt;
      few = lit≤ tt;
      last = omega (arith, expiry-near (front_expiry f d + wheat_chain.place c - 1), front-bounds f law.four d a, place-most c h);
      interval = cond_both _ 5 c (λ x. x < 6) (λ _. lit≤ tt) (λ _. h);
      width = refl;
      parts = λ p e. absurd (no_part 12 p e);
      six = lit≤ tt;
      next = λ s e. (moved wheat_chain refl (λ _. 0) (λ _. one (lasts d)) (λ _. lasts d) c s h (omega arith) e).0;
    };
    whole = λ d c a h e. absurd (false≢true e);
    part = λ d c p a h l e. absurd (no_part 12 p e);
    cover = λ d c m a h e. absurd (false≢true e);
    lasting = λ d c a h ne _ q. both_ways _ (ap is_some q) (some-stays (lasts d) _ c (after-delivery c h ne).1);
    same = λ d c s e a h q n l.
        ap month_at (moved wheat_chain refl (λ _. front_expiry f d) (λ _. front_expiry f e) (λ _. lasts d) c s h (front-next f law.four d e a l n) q).2;
    stays = λ d a. delivery-stays (lasts d);
    apart = λ d c e s a h l p q. apart wheat_chain refl (λ _. lasts d) c e s h l p q;
    untraded = λ d a. refl;
    later = λ d c a h ne.
        let k = front_expiry f d in
        omega (arith, expiry-near (k + 0 - 1), expiry-near (k + wheat_chain.place c - 1), front-bounds f law.four d a, (after-delivery c h ne).0);
  }

  pub wheat-laws : Laws (wheat f)
  wheat-laws = laws f 6 5 (λ _. 50) (wheat_class f) kept

  on : (d c : ℕ) → answers (wheat f) d ≡ true → c < 6 → (wheat f).on d c ≡ Some (wheat_class f d c)
  on d c e h = on-answered f 6 5 (λ _. 50) (wheat_class f) d c (answered-day f d e) h

  pub front-law : FrontIsFirstNotPast f
  front-law = record {
    in_month = λ k h. let l = last-is f law.four k h in subst (λ (o : Option ℕ). MatchOption o ⊥ (First f (tenth k) (start (expiry_month k + 1)))) (sym l.0) l.1;
    month = λ d e. ap months_of (on d 0 e (lit≤ tt)) ∙ (let z : front_expiry f d + 1 - 1 ≡ front_expiry f d = omega arith in rw z);
    past = λ d k x e h q.
        let a = answered-day f d e in
        omega (arith, (last-told f k x q).1, front-past f law.four d a k h);
    ahead = λ d k x e h q.
        let a = answered-day f d e in
        let t = last-told f k x q in
        omega (arith, t.1, front-ahead f law.four d a k t.0 h);
    moves = λ d c e h q. ap successor (on d c e h) ∙ cond-true _ _ _ (eq-eqb _ d (last-told f _ d q).1);
    stays = λ d c e h q.
        let a = answered-day f d e in
        let b = front-bounds f law.four d a in
        let l = (last-is f law.four (front_expiry f d) (omega arith)).0 in
        ap successor (on d c e h) ∙ cond-false _ _ _ (ne_eqb _ d (λ z. q (l ∙ ap Some z)));
  }
