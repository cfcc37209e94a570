-- Small words: the first question answered no, ranges, prices that may be missing, places of tables. Assumes nothing.
use Rattle.std.specs.Prelude.{ℕ, Bool, true, false, cond, ◌&&◌, List, ℤ, pos, neg_ℤ, Some, None, Ok, Err, Option, Result, ◌+ℤ◌, ◌==◌, int_le, slice_index_or}
use Rattle.amounts.specs.SumsOfWhole.{if_z}
use Rattle.ledger.specs.declared.fault.Fault.{Fault}
pub use Rattle.terms.specs.Meaning.{all_below}

-- a question: where it is answered no its fault is the answer, else the questions go on
abbrev pub ask : Bool → Fault → Option Fault → Option Fault
ask true f rest = rest
ask false f rest = Some f

abbrev pub within : ℤ → ℤ → ℤ → Bool
within low high x = int_le low x && int_le x high

-- a missing price counts as 0
abbrev pub or_zero : Option ℤ → ℤ
or_zero None = pos 0
or_zero (Some p) = p

-- a table with another value at one place
abbrev pub put : {A : Type 0} → (ℕ → A) → ℕ → A → ℕ → A
put f c v i = cond (i == c) v (f i)

-- what stands at a place that may be none
abbrev pub from : {A : Type 0} → Option ℕ → A → (ℕ → A) → A
from None d f = d
from (Some c) d f = f c

-- one state where a call is accepted, another where it is refused
abbrev pub unless : {A : Type 0} → Option Fault → A → A → A
unless None accepted refused = accepted
unless (Some f) accepted refused = refused

-- how a call replies: an answer, or the question answered no
abbrev pub reply : {A : Type 0} → Option Fault → A → Result A Fault
reply None x = Ok x
reply (Some f) x = Err f

-- what stands at a place of a list, and 0 past its end
abbrev pub at : List ℤ → ℕ → ℤ
at xs c = slice_index_or xs c (pos 0)

-- what a trade of n lots brings an account: n to the buyer, −n to the seller
abbrev pub share : ℕ → ℕ → ℤ → ℕ → ℤ
share buyer seller n a = if_z (a == buyer) n +ℤ if_z (a == seller) (neg_ℤ n)
