-- The laws of terms, from what holds of each class on an answered day. Assumes nothing.
use Rattle.std.proofs.Common.{◌≡◌, ℕ, zero, suc, ◌+◌, ◌<◌, ◌≤◌, Bool, true, false, cond, not, ◌&&◌, eqb, ltb, leb, get_or, replicate, is_some, Some, None, Option, sym, refl, ap, ◌∙◌, subst, ⊎_elim, arith}
use Rattle.std.proofs.lemmas.Bool.{and_parts, and_from, leb-true, le-leb, ltb-true, lt-ltb, cases_Bool, cond-true, cond-false, false≢true}
use Rattle.std.proofs.lemmas.Option.{none-some, same_Some}
use Rattle.calendars.specs.Calendars.{Lawful}
use Rattle.calendars.specs.Walks.{Next}
use Rattle.dates.proofs.MonthLaws.{month-below, month-from}
use Rattle.dates.specs.Dates.{when, start, month_of}
use Rattle.terms.specs.Meaning.{Meaning, sum_below, any_below, one, in_months, has, months_of, tradable, is_part, has_some_part, successor}
use Rattle.terms.specs.Laws.{Laws, InRange, names}
use Rattle.terms.specs.Listing.{answers_for, listing}
use Rattle.terms.specs.declared.class_terms.ClassTerms.{ClassTerms}
use Rattle.terms.proofs.Sums.{sum-ext}

-- the empty set of classes has none
pub no_part : (n p : ℕ) → get_or (replicate n false) p false ≡ true → ⊥
no_part zero p e = false≢true e
no_part (suc n) zero e = false≢true e
no_part (suc n) (suc p) e = no_part n p e

-- a day for which terms answer
pub record Answered (opens : ℕ → Bool) (d : ℕ) : Type 0 where
  pub from : 366 ≤ d
  pub to : d < 35430
  pub opened : opens d ≡ true

-- its month is one of 2001 to 2096
pub answered-month : (opens : ℕ → Bool) (d : ℕ) → Answered opens d → (12 ≤ month_of d) × (month_of d < 1164)
unfolding start
answered-month opens d a = (month-from d 12 a.from, month-below d 1164 a.to)

-- an answered day, told by a test
pub answered-day : (opens : ℕ → Bool) (d : ℕ) → (leb 366 d && (ltb d 35430 && opens d)) ≡ true → Answered opens d
answered-day opens d e =
    let a = and_parts _ _ e in
    let b = and_parts _ _ a.1 in
    record { from = leb-true 366 d a.0; to = ltb-true d 35430 b.0; opened = b.1 }

pub is-answered : (opens : ℕ → Bool) (classes d c : ℕ) → answers_for opens classes d c ≡ true → Answered opens d × (c < classes)
is-answered opens classes d c e =
    let a = and_parts _ _ e in
    (answered-day opens d a.0, ltb-true c classes a.1)

is-listed : (opens : ℕ → Bool) (classes d c : ℕ) → Answered opens d → c < classes → answers_for opens classes d c ≡ true
is-listed opens classes d c a h =
    and_from _ _ (and_from _ _ (le-leb 366 d a.from) (and_from _ _ (lt-ltb d 35430 a.to) a.opened)) (lt-ltb c classes h)

module _ (opens : ℕ → Bool) (classes settling : ℕ) (quantity : ℕ → ℕ) (at : ℕ → ℕ → ClassTerms) where
  abbrev w : Meaning
  w = listing opens classes settling quantity at

  -- the laws, asked of each class on an answered day
  pub record Kept : Type 0 where
    pub two : 2 ≤ classes
    pub twelve : classes ≤ 12
    pub settles : settling < classes
    pub calendar : Lawful opens
    pub quantities : (m : ℕ) → m < 1200 → (1 ≤ quantity m) × (quantity m ≤ 745)
    pub ranges : (d c : ℕ) → Answered opens d → c < classes → InRange w (at d c)
    pub whole : (d c : ℕ) → Answered opens d → c < classes → has_some_part (Some (at d c)) ≡ true → ((at d c).tradable ≡ true) × ((at d c).successor ≡ None)
    pub part : (d c p : ℕ) → Answered opens d → c < classes → p < classes → is_part (Some (at d c)) p ≡ true → ((at d p).tradable ≡ true) × (has_some_part (Some (at d p)) ≡ false)
    pub cover : (d c m : ℕ) → Answered opens d → c < classes → has_some_part (Some (at d c)) ≡ true → sum_below classes (λ p. one (is_part (Some (at d c)) p && in_months (Some (at d p).months) m)) ≡ one (in_months (Some (at d c).months) m)
    pub lasting : (d c : ℕ) → Answered opens d → c < classes → (c ≡ settling → ⊥) → has_some_part (Some (at d c)) ≡ false → (at d c).successor ≡ None → ⊥
    pub same : (d c s e : ℕ) → Answered opens d → c < classes → (at d c).successor ≡ Some s → Next opens d e → e < 35430 → (at e s).months ≡ (at d c).months
    pub stays : (d : ℕ) → Answered opens d → (at d settling).successor ≡ cond (any_below classes (λ c. not (eqb c settling) && names (at d c).successor settling)) None (Some settling)
    pub apart : (d c e s : ℕ) → Answered opens d → c < classes → e < classes → (at d c).successor ≡ Some s → (at d e).successor ≡ Some s → c ≡ e
    pub untraded : (d : ℕ) → Answered opens d → (at d settling).tradable ≡ false
    pub later : (d c : ℕ) → Answered opens d → c < classes → (c ≡ settling → ⊥) → (at d settling).months.first + (at d settling).months.count ≤ (at d c).months.first

  -- an answer is the class's, on an answered day, or there is none
  by_answer : (d c : ℕ) (P : Option ClassTerms → Type 0) → P None → (Answered opens d → c < classes → P (Some (at d c))) → P (w.on d c)
  by_answer d c P none some =
      ⊎_elim (λ e. let t = is-answered opens classes d c e in subst P (sym (cond-true _ (Some (at d c)) None e)) (some t.0 t.1)) (λ e. subst P (sym (cond-false _ (Some (at d c)) None e)) none)
      (cases_Bool (answers_for opens classes d c))

  pub on-answered : (d c : ℕ) → Answered opens d → c < classes → w.on d c ≡ Some (at d c)
  on-answered d c a h = cond-true _ (Some (at d c)) None (is-listed opens classes d c a h)

  one_way : {A : Type 0} → ◌≡◌ {A = Bool} false true → A
  one_way e = absurd (false≢true e)

  told-some : (b : Bool) (t : ClassTerms) → is_some (when b t) ≡ b
  told-some true t = refl
  told-some false t = refl

  any-ext : (n : ℕ) (f g : ℕ → Bool) → ((k : ℕ) → k < n → f k ≡ g k) → any_below n f ≡ any_below n g
  any-ext zero f g h = refl
  any-ext (suc n) f g h = rw (any-ext n f g (λ k l. h k (omega arith)), h n (omega arith))

  in_order : (a n b l i m : ℕ) → a + n ≤ b → (leb a i && ltb i (a + n)) ≡ true → (leb b m && ltb m (b + l)) ≡ true → i < m
  in_order a n b l i m h p q = omega (arith, ltb-true i (a + n) (and_parts (leb a i) (ltb i (a + n)) p).1, leb-true b m (and_parts (leb b m) (ltb m (b + l)) q).0)

  pub laws : Kept → Laws w
  laws k = record {
    two = k.two;
    twelve = k.twelve;
    settles = k.settles;
    calendar = k.calendar;
    quantities = k.quantities;
    answered = λ d c. told-some (answers_for opens classes d c) (at d c);
    ranges = λ d c t. by_answer d c (λ o. o ≡ Some t → InRange w t) (λ e. absurd (none-some t e)) (λ a h e. subst (InRange w) (same_Some _ _ e) (k.ranges d c a h));
    whole = λ d c. by_answer d c (λ o. has_some_part o ≡ true → (tradable o ≡ true) × (successor o ≡ None)) (λ e. one_way e) (k.whole d c);
    part = λ d c p.
        by_answer d c (λ o. is_part o p ≡ true → (tradable (w.on d p) ≡ true) × (has_some_part (w.on d p) ≡ false)) (λ e. one_way e)
        (λ a h e. let l = (k.ranges d c a h).parts p e in subst (λ (o : Option ClassTerms). (tradable o ≡ true) × (has_some_part o ≡ false)) (sym (on-answered d p a l)) (k.part d c p a h l e));
    cover = λ d c m.
        by_answer d c (λ o. has_some_part o ≡ true → sum_below classes (λ p. one (is_part o p && has (w.on d p) m)) ≡ one (has o m)) (λ e. one_way e)
        (λ a h e. sum-ext classes _ _ (λ p l. ap (λ (o : Option ClassTerms). one (is_part (Some (at d c)) p && has o m)) (on-answered d p a l)) ∙ k.cover d c m a h e);
    lasting = λ d c e h ne.
        let a = answered-day opens d e in
        subst (λ (o : Option ClassTerms). has_some_part o ≡ false → successor o ≡ None → ⊥) (sym (on-answered d c a h)) (k.lasting d c a h ne);
    same = λ d c s e.
        by_answer d c (λ o. successor o ≡ Some s → Next opens d e → e < 35430 → months_of (w.on e s) ≡ months_of o) (λ q n l. absurd (none-some s q))
        (λ a h q n l. ap months_of (on-answered e s (record { from = omega (arith, a.from, n.after); to = l; opened = n.inside }) ((k.ranges d c a h).next s q)) ∙ ap Some (k.same d c s e a h q n l));
    stays = λ d e.
        let a = answered-day opens d e in
        ap successor (on-answered d settling a k.settles) ∙ k.stays d a ∙ ap (λ (b : Bool). cond b None (Some settling)) (any-ext classes _ _ (λ c l. ap (λ (o : Option ClassTerms). not (eqb c settling) && names (successor o) settling) (sym (on-answered d c a l))));
    apart = λ d c e s.
        by_answer d c (λ o. successor o ≡ Some s → successor (w.on d e) ≡ Some s → c ≡ e) (λ p q. absurd (none-some s p))
        (λ a h p. by_answer d e (λ o. successor o ≡ Some s → c ≡ e) (λ q. absurd (none-some s q)) (λ _ l q. k.apart d c e s a h l p q));
    untraded = λ d. by_answer d settling (λ o. tradable o ≡ false) refl (λ a h. k.untraded d a);
    later = λ d c i m ne.
        by_answer d settling (λ o. has o i ≡ true → has (w.on d c) m ≡ true → i < m) (λ p q. one_way p)
        (λ a h p. by_answer d c (λ o. has o m ≡ true → i < m) (λ q. one_way q) (λ _ l q. in_order _ _ _ _ i m (k.later d c a l ne) p q));
  }
