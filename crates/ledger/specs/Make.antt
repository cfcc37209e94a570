-- Make: the questions, in their order. Assumes nothing.
use Rattle.std.specs.Prelude.{ℕ, suc, Bool, ◌&&◌, List, [], ◌∷◌, None, Option, ◌==◌, nat_le}
use Rattle.coded.specs.declared.class_line.ClassLine.{ClassLine}
use Rattle.ledger.specs.State.{Made}
use Rattle.ledger.specs.Words.{ask}
use Rattle.ledger.specs.declared.fault.Fault.{Fault}
use Rattle.ledger.specs.declared.fault.Fault.TheVariants.{AccountCount, StartMonth, ClassLines}
use Rattle.terms.specs.Meaning.{Meaning}

-- what a make is handed
abbrev pub made_of : ℕ → ℕ → List ClassLine → Made
made_of month accounts lines = record { month = month; accounts = accounts; lines = lines }

-- exactly one line for each class from k on below n, rising, with intervals in range
abbrev pub lines_fit : ℕ → ℕ → List ClassLine → Bool
lines_fit k n [] = k == n
lines_fit k n (l ∷ ls) = l.class == k && (nat_le l.interval 10000 && lines_fit (suc k) n ls)

abbrev pub make_refusal : Meaning → Made → Option Fault
make_refusal w m =
    ask (nat_le 2 m.accounts && nat_le m.accounts 32) AccountCount
    (ask (nat_le 12 m.month && nat_le m.month 1163) StartMonth
    (ask (lines_fit 0 w.classes m.lines) ClassLines None))
