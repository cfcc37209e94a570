-- The law of the ledger in figures, at the end of a life. Assumes nothing.
use Rattle.std.specs.Prelude.{ℕ, List, [], ◌++◌, Option, Some, None}
use Rattle.ledger.specs.History.{History}
use Rattle.ledger.specs.State.{State}
use Rattle.reckoning.specs.Reckonings.{sums_text, known_text}
use Rattle.terms.specs.Meaning.{Meaning}

-- where an account is followed: the sums over all accounts, and that account's months and cash
abbrev pub reckoned_text : Meaning → History → State → Option ℕ → List ℕ
reckoned_text w h s None = []
reckoned_text w h s (Some a) = sums_text w s ++ known_text w h s a
