-- The calls of a list, handed over once more as one list. Assumes nothing.
use Rattle.std.specs.Prelude.{◌≡◌, ℕ, not, List, map, reverse, length, Option, Some, None, IsSome, ◌==◌}
use Rattle.coded.specs.declared.class_line.ClassLine.{ClassLine}
use Rattle.journal.specs.Journals.{meaning_of, state_of, entries_of}
use Rattle.journal.specs.declared.journal.Journal.{Journal}
use Rattle.ledger.specs.Faults.{fault_number}
use Rattle.ledger.specs.Ledger.{Life}
use Rattle.ledger.specs.Make.{made_of, make_refusal}
use Rattle.ledger.specs.State.{Made, State}
use Rattle.ledger.specs.declared.entry.Entry.{Entry}
use Rattle.ledger.specs.declared.fault.Fault.{Fault}
use Rattle.std.specs.List.{filter, zip}
use Rattle.terms.specs.Meaning.{Meaning}
use Rattle.terms.specs.declared.terms.Terms.{Ghosts}

-- the number of the question that was answered no, or 0 where the call was accepted
abbrev pub answer_number : Option Fault → ℕ
answer_number None = 0
answer_number (Some f) = fault_number f

-- at how many places of two lists the answers differ
abbrev pub differing : List Entry → List Entry → ℕ
differing first second = length (filter (λ p. not (answer_number p.0.answer == answer_number p.1.answer)) (zip first second))

-- A new book over terms was handed the calls of a list, and so many of its answers differ from those of the list. The law of
-- the ledger held of it at the start and after each call.
pub record Again (w : Meaning) (m : Made) (first : List Entry) (n : ℕ) : Type 0 where
  pub entries : List Entry
  pub state : State
  pub made : state.made ≡ m
  pub calls : map (λ e. e.call) entries ≡ map (λ e. e.call) first
  pub life : Life w (reverse entries) state
  pub count : n ≡ differing first entries

-- A new book over terms, with as many accounts as that of a journal.
module _ {T : Type 0} {g : Ghosts T} (j : Journal T g) (t : T) (month : ℕ) where
  abbrev pub anew : List ClassLine → Made
  anew lines = made_of month (state_of j).made.accounts lines

  -- the question that refuses its make, if one does
  abbrev pub refused : List ClassLine → Option Fault
  refused lines = make_refusal (g.meaning t) (anew lines)

  -- it can be made, or cannot
  abbrev pub Makes : List ClassLine → Type 0
  Makes lines = refused lines ≡ None

  abbrev pub Refuses : List ClassLine → Type 0
  Refuses lines = IsSome (refused lines)

  -- handed the calls of the journal, it gives so many of them another answer
  abbrev pub Differ : List ClassLine → ℕ → Type 0
  Differ lines n = ∥ Again (g.meaning t) (anew lines) (entries_of j) n ∥₁

  -- it is over terms of the same meaning, from the same month on
  pub record Same : Type 0 where
    pub meaning : g.meaning t ≡ meaning_of j
    pub start : month ≡ (state_of j).made.month
