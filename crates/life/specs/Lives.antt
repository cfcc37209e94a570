-- What is had in a life, and what a teller makes of it. Assumes nothing.
use Rattle.std.specs.Prelude.{ℕ, List, ◌++◌, string_bytes}
use Rattle.journal.specs.Journals.{history_of}
use Rattle.life.specs.Reckoned.{reckoned_text}
use Rattle.life.specs.Runs.{Run, run_at, sheet_run}
use Rattle.life.specs.declared.life.Life.{Life}
use Rattle.life.specs.declared.life.Teller.{Teller}
use Rattle.sheet.specs.Desks.{terms_at, meaning_at, state_at, entries_at}
use Rattle.terms.specs.Meaning.{Meaning}
use Rattle.terms.specs.declared.terms.Terms.{Ghosts}

module _ {T : Type 0} {g : Ghosts T} where
  -- the terms of its book, and what they mean
  abbrev pub terms_in : Life T g → T
  terms_in l = terms_at l.desk

  abbrev pub meaning_in : Life T g → Meaning
  meaning_in l = meaning_at l.desk

  -- how far it has come: what has been told, what its book holds, and its calls with their answers
  abbrev pub run_of : Life T g → Run
  run_of l = run_at (string_bytes l.text) (state_at l.desk) (entries_at l.desk)

  -- how far it has come once a sheet is told
  abbrev pub run_told : Teller → Life T g → List ℕ → Run
  run_told teller l sheet = sheet_run (meaning_in l) teller.product teller.followed sheet (run_of l)

  -- what has been told once the law of the ledger is reckoned
  abbrev pub text_reckoned : Teller → Life T g → List ℕ
  text_reckoned teller l = string_bytes l.text ++ reckoned_text (meaning_in l) (history_of l.desk.journal) (state_at l.desk) teller.followed
