-- A reading goes on by one call. Assumes nothing.
use Rattle.std.proofs.Common.{◌≡◌, ℕ, zero, suc, ◌+◌, ◌*◌, ◌^◌, ◌<◌, ◌≤◌, Bool, true, false, eqb, cond, ◌∷◌, length, get_or, replicate, ℤ, pos, ◌+ℤ◌, ◌*ℤ◌, nat_abs, Some, None, sym, refl, ap, ◌∙◌, arith}
use Rattle.amounts.specs.SumsOfWhole.{if_z}
use Rattle.history.specs.Told.{Told}
use Rattle.history.specs.declared.reading.Reading.{Reading}
use Rattle.ledger.proofs.Figures.{plus-zero}
use Rattle.ledger.specs.History.{History, day_after, net, since, costs, booked, final, first_of}
use Rattle.terms.specs.Day.{next_day}
use Rattle.ledger.specs.Words.{at, share}
use Rattle.ledger.specs.declared.call.Call.{Call}
use Rattle.ledger.specs.declared.call.Call.TheVariants.{Trade, Mark, Reprice, Settle, Close}
use Rattle.ledger.specs.declared.fault.Fault.{Fault}
use Rattle.std.proofs.lemmas.Int.{ints}
use Rattle.terms.specs.Meaning.{Meaning, has, class_quantity}

module _ (w : Meaning) (start : ℕ) (h : History) (a : ℕ) (k l : Reading) (t : Told w start h a k) (one : l.calls ≡ k.calls + 1) where
  counted : l.calls ≡ suc (length h)
  counted = omega (arith, t.calls)

  pub told-trade : (buyer seller c : ℕ) (n p : ℤ) → l.day ≡ k.day → l.finals ≡ k.finals → l.booked ≡ k.booked → ((m : ℕ) → m < 1200 → at l.nets m ≡ at k.nets m +ℤ if_z (has (w.on k.day c) m) (share buyer seller n a)) → ((i : ℕ) → i < 12 → at l.since i ≡ at k.since i +ℤ if_z (eqb i c) (share buyer seller n a)) → l.costs ≡ k.costs +ℤ pos (class_quantity w (w.on k.day c)) *ℤ (share buyer seller n a *ℤ p) → Told w start (record { call = Trade buyer seller c n p; answer = None } ∷ h) a l
  unfolding day_after net since costs booked final
  told-trade buyer seller c n p day finals booked nets since costs = record {
    calls = counted;
    day = day ∙ t.day;
    nets = λ m lt. nets m lt ∙ (λ i. t.nets m lt i +ℤ if_z (has (w.on (t.day i) c) m) (share buyer seller n a));
    finals = λ m lt. ap (λ xs. get_or xs m None) finals ∙ t.finals m lt;
    since = λ j lt. since j lt ∙ (λ i. t.since j lt i +ℤ if_z (eqb j c) (share buyer seller n a));
    costs = costs ∙ (λ i. t.costs i +ℤ pos (class_quantity w (w.on (t.day i) c)) *ℤ (share buyer seller n a *ℤ p));
    booked = booked ∙ t.booked;
  }

  pub told-settle : (f : ℤ) (room : ℕ) → l.day ≡ k.day → l.nets ≡ k.nets → l.since ≡ k.since → l.costs ≡ k.costs → l.booked ≡ k.booked → ((m : ℕ) → m < 1200 → get_or l.finals m None ≡ first_of (cond (has (w.on k.day w.settling) m) (Some f) None) (get_or k.finals m None)) → Told w start (record { call = Settle f room; answer = None } ∷ h) a l
  unfolding day_after net since costs booked final
  told-settle f room day nets since costs booked finals = record {
    calls = counted;
    day = day ∙ t.day;
    nets = λ m lt. ap (λ xs. at xs m) nets ∙ t.nets m lt ∙ sym (plus-zero _);
    finals = λ m lt. finals m lt ∙ (λ i. first_of (cond (has (w.on (t.day i) w.settling) m) (Some f) None) (t.finals m lt i));
    since = λ j lt. ap (λ xs. at xs j) since ∙ t.since j lt ∙ sym (plus-zero _);
    costs = costs ∙ t.costs ∙ sym (plus-zero _);
    booked = booked ∙ t.booked;
  }

  pub told-close : (room : ℕ) → l.day ≡ next_day w k.day → l.nets ≡ k.nets → l.finals ≡ k.finals → l.costs ≡ k.costs → l.booked ≡ k.costs → ((c : ℕ) → at l.since c ≡ pos 0) → Told w start (record { call = Close room; answer = None } ∷ h) a l
  unfolding day_after net since costs booked final
  told-close room day nets finals costs booked since = record {
    calls = counted;
    day = day ∙ ap (next_day w) t.day;
    nets = λ m lt. ap (λ xs. at xs m) nets ∙ t.nets m lt ∙ sym (plus-zero _);
    finals = λ m lt. ap (λ xs. get_or xs m None) finals ∙ t.finals m lt;
    since = λ j lt. since j;
    costs = costs ∙ t.costs ∙ sym (plus-zero _);
    booked = booked ∙ t.costs;
  }

  -- a mark, a repricing and a refusal tell nothing
  module _ (day : l.day ≡ k.day) (nets : l.nets ≡ k.nets) (finals : l.finals ≡ k.finals) (since : l.since ≡ k.since) (costs : l.costs ≡ k.costs) (booked : l.booked ≡ k.booked) where
    pub told-mark : (c : ℕ) (p : ℤ) → Told w start (record { call = Mark c p; answer = None } ∷ h) a l
    unfolding day_after net since costs booked final
    told-mark c p = record {
      calls = counted;
      day = day ∙ t.day;
      nets = λ m lt. ap (λ xs. at xs m) nets ∙ t.nets m lt ∙ sym (plus-zero _);
      finals = λ m lt. ap (λ xs. get_or xs m None) finals ∙ t.finals m lt;
      since = λ j lt. ap (λ xs. at xs j) since ∙ t.since j lt ∙ sym (plus-zero _);
      costs = costs ∙ t.costs ∙ sym (plus-zero _);
      booked = booked ∙ t.booked;
    }

    pub told-reprice : (c : ℕ) (p : ℤ) → Told w start (record { call = Reprice c p; answer = None } ∷ h) a l
    unfolding day_after net since costs booked final
    told-reprice c p = record {
      calls = counted;
      day = day ∙ t.day;
      nets = λ m lt. ap (λ xs. at xs m) nets ∙ t.nets m lt ∙ sym (plus-zero _);
      finals = λ m lt. ap (λ xs. get_or xs m None) finals ∙ t.finals m lt;
      since = λ j lt. ap (λ xs. at xs j) since ∙ t.since j lt ∙ sym (plus-zero _);
      costs = costs ∙ t.costs ∙ sym (plus-zero _);
      booked = booked ∙ t.booked;
    }

    pub told-refused : (q : Call) (f : Fault) → Told w start (record { call = q; answer = Some f } ∷ h) a l
    unfolding day_after net since costs booked final
    told-refused q f = record {
      calls = counted;
      day = day ∙ t.day;
      nets = λ m lt. ap (λ xs. at xs m) nets ∙ t.nets m lt ∙ sym (plus-zero _);
      finals = λ m lt. ap (λ xs. get_or xs m None) finals ∙ t.finals m lt;
      since = λ j lt. ap (λ xs. at xs j) since ∙ t.since j lt ∙ sym (plus-zero _);
      costs = costs ∙ t.costs ∙ sym (plus-zero _);
      booked = booked ∙ t.booked;
    }

-- what one call adds is small
pub more-small : (calls : ℕ) (x y d : ℤ) (b : Bool) → y ≡ x +ℤ if_z b d → nat_abs x ≤ calls * 2 ^ 31 → nat_abs d ≤ 2 ^ 31 → nat_abs y ≤ (calls + 1) * 2 ^ 31
more-small calls x y d true e h k = omega (arith, ints)
more-small calls x y d false e h k = omega (arith, ints)

pub cost-small : (calls : ℕ) (x d : ℤ) → nat_abs x ≤ calls * 2 ^ 76 → nat_abs d ≤ 2 ^ 76 → nat_abs (x +ℤ d) ≤ (calls + 1) * 2 ^ 76
cost-small calls x d h k = omega (arith, ints)

pub all_same : {A : Type 0} (n : ℕ) (x : A) (i : ℕ) → get_or (replicate n x) i x ≡ x
all_same zero x i = refl
all_same (suc n) x zero = refl
all_same (suc n) x (suc i) = all_same n x i
