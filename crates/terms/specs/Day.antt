-- What terms say of a day, read off them once. Assumes nothing.
use Rattle.std.specs.Prelude.{ℕ, zero, suc, Bool, cond, Some, None, Option}
use Rattle.calendars.specs.Walks.{next_after}
use Rattle.std.specs.Option.{unwrap_or}
use Rattle.terms.specs.Laws.{names, is_taken_over}
use Rattle.terms.specs.Meaning.{Meaning, tradable, is_part, has_some_part, successor, class_quantity}

pub record Day : Type 0 where
  pub day : ℕ
  -- how many classes there are, and which of them settles
  pub classes : ℕ
  pub settling : ℕ
  -- the quantity of one lot in a class, and whether the class is tradable
  pub quantity : ℕ → ℕ
  pub tradable : ℕ → Bool
  -- class p is a part of class c; class c has parts
  pub part : ℕ → ℕ → Bool
  pub whole : ℕ → Bool
  -- the class that a class succeeds on the next open day
  pub source : ℕ → Option ℕ
  -- another class succeeds to the settling class
  pub taken_over : Bool
  -- the next open day
  pub next : Option ℕ

-- the class below n to which class t is the successor
abbrev pub source_below : (ℕ → Option ℕ) → ℕ → ℕ → Option ℕ
source_below next t zero = None
source_below next t (suc n) = cond (names (next n) t) (Some n) (source_below next t n)

-- a day of terms
abbrev pub day_of : Meaning → ℕ → Day
day_of w d = record {
  day = d;
  classes = w.classes;
  settling = w.settling;
  quantity = λ c. class_quantity w (w.on d c);
  tradable = λ c. tradable (w.on d c);
  part = λ c p. is_part (w.on d c) p;
  whole = λ c. has_some_part (w.on d c);
  source = λ t. source_below (λ c. successor (w.on d c)) t w.classes;
  taken_over = is_taken_over w d;
  next = next_after w.opens d;
}

-- the next open day, or day 0 where there is none
abbrev pub next_day : Meaning → ℕ → ℕ
next_day w d = unwrap_or (next_after w.opens d) 0
