use Rattle.std.proofs.Common.{◌≡◌}
use Rattle.life.proofs.Callings.{OnTheWay}
use Rattle.life.specs.Lives.{terms_in, meaning_in, run_of}
use Rattle.life.proofs.life.Teller.advance.Given as goal

abbrev pub invariant-loop : goal.invariant-loop
invariant-loop g l =
    let start = l.initial.life in
    OnTheWay (meaning_in start) l.self.product l.self.followed l.line l.advance.price l.counter l.advance.days (run_of start) (run_of l.life)
    × (terms_in l.life ≡ terms_in start)
