-- The code's answers on a day, from what it works out once for all classes. Assumes nothing.
use Rattle.std.proofs.Common.{◌≡◌, ℕ, ◌<◌, Bool, true, false, cond, ◌&&◌, eqb, ltb, leb, Some, refl, sym, ap, ◌∙◌, arith}
use Rattle.std.proofs.lemmas.Bool.{and_parts}
use Rattle.calendars.specs.Calendars.{Lawful}
use Rattle.dates.proofs.MonthLaws.{told}
use Rattle.dates.specs.Dates.{when}
use Rattle.terms.proofs.Listings.{answered-day, is-answered}
use Rattle.terms.specs.Listing.{answers_for}
use Rattle.wheat.specs.FrontLaws.{front-bounds}
use Rattle.wheat.specs.Wheat.{last_day, front_expiry, is_near, class_from, class_with, wheat_class}

-- the range of T01's expiry
pub front-range : (f : ℕ → Bool) → Lawful f → (d k : ℕ) → (leb 366 d && (ltb d 35430 && f d)) ≡ true → Some k ≡ when (ltb d 36525) (front_expiry f d) → (0 < k) × (k < 396)
front-range f law d k answered e =
    let b = front-bounds f law.four d (answered-day f d answered) in
    let t = told (ltb d 36525) k (front_expiry f d) e in
    (omega (arith, t.1), omega (arith, t.1))

-- what is known of a class that is answered
pub class-range : (f : ℕ → Bool) → Lawful f → (d c k : ℕ) → answers_for f 6 d c ≡ true → Some k ≡ when (ltb d 36525) (front_expiry f d) → (d < 36525) × ((0 < k) × ((k < 396) × (c < 6)))
class-range f law d c k e q =
    let a = is-answered f 6 d c e in
    let r = front-range f law d k (and_parts _ _ e).0 q in
    (omega (arith, a.0.to), (r.0, (r.1, a.1)))

-- for every number: a class, or none past the last
pub answer-is : (f : ℕ → Bool) (d k : ℕ) (near lasts : Bool) → (leb 366 d && (ltb d 35430 && f d)) ≡ true → k ≡ front_expiry f d → near ≡ is_near f d (last_day f k) → lasts ≡ eqb (last_day f k) d → (c : ℕ) → when (ltb c 6) (class_from k near lasts c) ≡ when (answers_for f 6 d c) (wheat_class f d c)
answer-is f d k near lasts answered front n l c =
    ap (λ b. when (ltb c 6) (class_from k b lasts c)) n
    ∙ ap (λ b. when (ltb c 6) (class_from k (is_near f d (last_day f k)) b c)) l
    ∙ ap (λ k. when (ltb c 6) (class_with f d k c)) front
    ∙ ap (λ h. when (h && ltb c 6) (wheat_class f d c)) (sym answered)

asked-twice : (b n : Bool) (x y : ℕ) → cond (b && (b && n)) x y ≡ cond (b && n) x y
asked-twice true n x y = refl
asked-twice false n x y = refl

-- for one class: whether T01's last trading day is near is asked of T01 alone
pub answer-of : (f : ℕ → Bool) (d k : ℕ) (near lasts : Bool) (c : ℕ) → (leb 366 d && (ltb d 35430 && f d)) ≡ true → k ≡ front_expiry f d → near ≡ (eqb c 0 && is_near f d (last_day f k)) → lasts ≡ eqb (last_day f k) d → when (ltb c 6) (class_from k near lasts c) ≡ when (answers_for f 6 d c) (wheat_class f d c)
answer-of f d k near lasts c answered front n l =
    ap (λ b. when (ltb c 6) (class_from k b lasts c)) n
    ∙ ap (λ i. when (ltb c 6) (record (class_from k (is_near f d (last_day f k)) lasts c) { interval_class = i })) (asked-twice (eqb c 0) (is_near f d (last_day f k)) 5 c)
    ∙ answer-is f d k (is_near f d (last_day f k)) lasts answered front refl l c
