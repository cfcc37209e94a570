-- Terms from what each class is on each day. Assumes nothing.
use Rattle.std.specs.Prelude.{ℕ, Bool, ◌&&◌, nat_le, nat_lt}
use Rattle.dates.specs.Dates.{when}
use Rattle.terms.specs.Meaning.{Meaning}
use Rattle.terms.specs.declared.class_terms.ClassTerms.{ClassTerms}

-- an open day from 2001 to 2096, and one of the classes
abbrev pub answers_for : (ℕ → Bool) → ℕ → ℕ → ℕ → Bool
answers_for opens classes d c = (nat_le 366 d && (nat_lt d 35430 && opens d)) && nat_lt c classes

-- the terms that answer so on these days for these classes, and for nothing else
abbrev pub listing : (ℕ → Bool) → ℕ → ℕ → (ℕ → ℕ) → (ℕ → ℕ → ClassTerms) → Meaning
listing opens classes settling quantity class = record {
  opens = opens;
  classes = classes;
  settling = settling;
  quantity = quantity;
  on = λ d c. when (answers_for opens classes d c) (class d c);
}
