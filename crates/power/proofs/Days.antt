-- The code's answers on a day, from its month and the open days left in it. Assumes nothing.
use Rattle.std.proofs.Common.{◌≡◌, ℕ, ◌<◌, ◌≤◌, Bool, true, ◌&&◌, ltb, leb, Some, refl, sym, ap, ◌∙◌, ⊎_elim, arith}
use Rattle.std.proofs.lemmas.Bool.{cases_lt, le-ltb, le-leb, lt-ltb, and_from}
use Rattle.calendars.specs.Calendars.{Lawful}
use Rattle.calendars.specs.Walks.{left, left_in_month}
use Rattle.dates.proofs.MonthLaws.{told}
use Rattle.dates.specs.Dates.{when, month_of, month_of_day}
use Rattle.power.specs.Classes.{length_of}
use Rattle.power.specs.Monthly.{turns_by, class_by}
use Rattle.power.specs.Periods.{left-of, own_is, turns-is}
use Rattle.power.specs.Power.{own, turns, class_from, power_class}
use Rattle.terms.proofs.Listings.{Answered, answered-day, answered-month, on-answered}
use Rattle.terms.specs.Listing.{answers_for}

module _ (f : ℕ → Bool) (second : Bool) (law : Lawful f) (d : ℕ) (b : Bool) (m l : ℕ) (same : b ≡ second) (answered : (leb 366 d && (ltb d 35430 && f d)) ≡ true) (month : m ≡ month_of d) (left_in : l ≡ left f d) where
  class-is : (c : ℕ) → c < 11 → class_by m l b c ≡ power_class f second d c
  class-is c h =
      let r = answered-month f d (answered-day f d answered) in
      let o = own_is f law d (omega arith) c h in
      let t = turns-is f law d (omega arith) c h in
      let z = (left-of f law d (omega arith) 0 (omega arith)).last (omega arith) in
      ap (λ b. class_by m l b c) same ∙ ap (λ m. class_by m l second c) month ∙ ap (λ l. class_by (month_of d) l second c) left_in ∙ ap (λ n. class_from n (turns_by (length_of c) (month_of d) (left f d)) (left f d) second c) (sym o) ∙ ap (λ b. class_from (own f (length_of c) d) b (left f d) second c) (sym t) ∙ ap (λ n. class_from (own f (length_of c) d) (turns f (length_of c) d) n second c) (sym z)

  -- for every number: a class, or none past the last
  pub answer-is : (c : ℕ) → when (ltb c 11) (class_by m l b c) ≡ when (answers_for f 11 d c) (power_class f second d c)
  answer-is c =
      ⊎_elim (λ (h : c < 11). ap (when (ltb c 11)) (class-is c h))
      (λ (h : 11 ≤ c).
      let e = le-ltb c 11 h in
      ap (λ h. when h (class_by m l b c)) e ∙ sym (ap (λ h. when h (power_class f second d c)) e))
      (cases_lt c 11)
      ∙ ap (λ h. when (h && ltb c 11) (power_class f second d c)) (sym answered)

-- the class on an answered day, from the day's month and the open days left in it
pub class-answer : (f : ℕ → Bool) (second : Bool) (d c m l : ℕ) → Lawful f → Answered f d → c < 11 → Some m ≡ month_of_day d → Some l ≡ left_in_month f d → Some (class_by m l second c) ≡ when (answers_for f 11 d c) (power_class f second d c)
class-answer f second d c m l law a h month left_in =
    let x = (told (ltb d 36525) m (month_of d) month).1 in
    let y = (told (ltb d 36525) l (left f d) left_in).1 in
    let answered = and_from _ _ (le-leb 366 d a.from) (and_from _ _ (lt-ltb d 35430 a.to) a.opened) in
    ap Some (class-is f second law d second m l refl answered x y c h) ∙ sym (on-answered f 11 10 (λ _. 0) (power_class f second) d c a h)
