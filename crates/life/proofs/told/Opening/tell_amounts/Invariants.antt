use Rattle.std.proofs.Common.{◌≡◌, ◌++◌, string_bytes, take}
use Rattle.life.specs.Told.{amount_told}
use Rattle.std.specs.List.{flat_map}
use Rattle.life.proofs.told.Opening.tell_amounts.Given as goal

abbrev pub invariant-loop-amount : goal.invariant-loop-amount
invariant-loop-amount l = string_bytes l.text ≡ string_bytes l.initial.text ++ flat_map (amount_told l.self.line l.self.day l.request) (take l.amount-index l.amounts)
