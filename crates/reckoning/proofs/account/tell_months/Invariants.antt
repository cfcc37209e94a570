use Rattle.std.proofs.Common.{◌≡◌, ◌++◌, string_bytes}
use Rattle.reckoning.specs.Tellings.{month_of}
use Rattle.std.specs.List.{flat_map, range_with_len}
use Rattle.reckoning.proofs.account.tell_months.Given as goal

-- the months before this one are told
abbrev pub invariant-loop-month : goal.invariant-loop-month
invariant-loop-month g l =
    string_bytes l.text ≡ string_bytes l.initial.text ++ flat_map (month_of l.journal l.account) (range_with_len 0 l.month)
