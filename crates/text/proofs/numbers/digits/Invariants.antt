use Rattle.std.proofs.Common.{◌≡◌, ◌^◌, ◌<◌, ◌≤◌, length, drop}
use Rattle.text.specs.Numbers.{read_on}
use Rattle.text.proofs.numbers.digits.Given as goal

abbrev pub invariant-loop-b : goal.invariant-loop-b
invariant-loop-b l = (read_on l.n (drop l.b-index l.s) ≡ read_on 0 l.s) × (l.n < 10 ^ l.b-index) × (length l.s ≤ 9)
