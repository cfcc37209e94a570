-- What each class of the product is on a day. Assumes nothing.
use Rattle.std.specs.Prelude.{ℕ, ◌+◌, Bool, false, cond, replicate, Some, None, ◌==◌}
use Rattle.calendars.specs.Walks.{left}
use Rattle.dates.specs.Dates.{days_in, month_of}
use Rattle.terms.specs.Chain.{Chain, moves_up}
use Rattle.terms.specs.Listing.{listing}
use Rattle.terms.specs.Meaning.{Meaning}
use Rattle.terms.specs.declared.class_terms.ClassTerms.{ClassTerms}

-- Two classes in one chain: class 0 stands one month after class 1, and hands over to it.
abbrev pub chain : Chain
chain = record {
  size = 2;
  kind = λ _. 0;
  place = λ c. cond (c == 0) 1 0;
  earlier = λ c. cond (c == 0) (Some 1) None;
}

-- A class on a day of month m, with n open days still to come in the month. After the last of them classes move up.
abbrev pub class_in : ℕ → ℕ → ℕ → ClassTerms
class_in m n c = record {
  months = record { first = m + chain.place c; count = 1 };
  tradable = (c == 0);
  interval_class = c;
  parts = replicate 12 false;
  successor = moves_up (n == 0) (chain.earlier c) c;
}

-- The product over the open days f: of two classes the second settles, and a month's quantity is its number of days.
abbrev pub single : (ℕ → Bool) → Meaning
single f = listing f 2 1 days_in (λ d. class_in (month_of d) (left f d))
