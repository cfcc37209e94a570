-- The four laws of terms, and the ranges of what terms tell. Assumes nothing.
use Rattle.std.specs.Prelude.{◌≡◌, ℕ, ◌+◌, ◌<◌, ◌≤◌, Bool, true, false, cond, not, ◌&&◌, length, is_some, Some, None, Option, ◌==◌, ◌≢◌, nat_lt}
use Rattle.calendars.specs.Calendars.{Lawful}
use Rattle.calendars.specs.Walks.{Next}
use Rattle.terms.specs.Meaning.{Meaning, answers, sum_below, any_below, one, has, months_of, tradable, is_part, has_some_part, successor}
use Rattle.terms.specs.declared.class_terms.ClassTerms.{ClassTerms}

-- whether an answer names a class
abbrev pub names : Option ℕ → ℕ → Bool
names None c = false
names (Some s) c = s == c

-- a class other than the settling class succeeds to it that day
abbrev pub is_taken_over : Meaning → ℕ → Bool
is_taken_over w d = any_below w.classes (λ c. not (c == w.settling) && names (successor (w.on d c)) w.settling)

-- what terms tell of a class lies in range
pub record InRange (w : Meaning) (t : ClassTerms) : Type 0 where
  pub some : 1 ≤ t.months.count
  pub few : t.months.count ≤ 12
  pub last : t.months.first + t.months.count ≤ 1200
  pub interval : t.interval_class < w.classes
  pub width : length t.parts ≡ 12
  pub parts : (p : ℕ) → is_part (Some t) p ≡ true → p < w.classes
  pub six : sum_below 12 (λ p. one (is_part (Some t) p)) ≤ 6
  pub next : (s : ℕ) → t.successor ≡ Some s → s < w.classes

pub record Laws (w : Meaning) : Type 0 where
  pub two : 2 ≤ w.classes
  pub twelve : w.classes ≤ 12
  pub settles : w.settling < w.classes
  pub calendar : Lawful w.opens
  pub quantities : (m : ℕ) → m < 1200 → (1 ≤ w.quantity m) × (w.quantity m ≤ 745)
  -- terms answer for each class on the open days from 2001 to 2096, and for nothing else
  pub answered : (d c : ℕ) → is_some (w.on d c) ≡ (answers w d && nat_lt c w.classes)
  pub ranges : (d c : ℕ) (t : ClassTerms) → w.on d c ≡ Some t → InRange w t
  -- 1. A class with parts is tradable and has no successor. Its parts are tradable and have no parts that day. Each of
  -- its months lies in exactly one part, and the parts have no other month.
  pub whole : (d c : ℕ) → has_some_part (w.on d c) ≡ true → (tradable (w.on d c) ≡ true) × (successor (w.on d c) ≡ None)
  pub part : (d c p : ℕ) → is_part (w.on d c) p ≡ true → (tradable (w.on d p) ≡ true) × (has_some_part (w.on d p) ≡ false)
  pub cover : (d c m : ℕ) → has_some_part (w.on d c) ≡ true → sum_below w.classes (λ p. one (is_part (w.on d c) p && has (w.on d p) m)) ≡ one (has (w.on d c) m)
  -- 2. A class without parts has a successor, which has the same months on the next open day up to 2096. The settling
  -- class succeeds itself, except on a day when another class succeeds to it: then it has no successor.
  pub lasting : (d c : ℕ) → answers w d ≡ true → c < w.classes → (c ≢ w.settling) → has_some_part (w.on d c) ≡ false → successor (w.on d c) ≢ None
  pub same : (d c s e : ℕ) → successor (w.on d c) ≡ Some s → Next w.opens d e → e < 35430 → months_of (w.on e s) ≡ months_of (w.on d c)
  pub stays : (d : ℕ) → answers w d ≡ true → successor (w.on d w.settling) ≡ cond (is_taken_over w d) None (Some w.settling)
  -- 3. No two classes have the same successor.
  pub apart : (d c e s : ℕ) → successor (w.on d c) ≡ Some s → successor (w.on d e) ≡ Some s → c ≡ e
  -- 4. The settling class is never tradable, and every other class has only later months than it.
  pub untraded : (d : ℕ) → tradable (w.on d w.settling) ≡ false
  pub later : (d c k m : ℕ) → (c ≢ w.settling) → has (w.on d w.settling) k ≡ true → has (w.on d c) m ≡ true → k < m
