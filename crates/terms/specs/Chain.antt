-- Chains of classes that move up by one place. Assumes nothing.
use Rattle.std.specs.Prelude.{ℕ, Bool, cond, Some, Option}

-- Classes stand in chains, one for each kind, at places that rise by one. As time passes the period of a kind's first
-- place moves on by one, and then each class of the kind hands over to the class one place before it.
pub record Chain : Type 0 where
  pub size : ℕ
  pub kind : ℕ → ℕ
  pub place : ℕ → ℕ
  pub earlier : ℕ → Option ℕ

-- the successor of a class: the class before it where its kind turns, else itself
abbrev pub moves_up : Bool → Option ℕ → ℕ → Option ℕ
moves_up turns before c = cond turns before (Some c)
