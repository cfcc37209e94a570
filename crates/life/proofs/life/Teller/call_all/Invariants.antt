use Rattle.std.proofs.Common.{◌≡◌, drop}
use Rattle.life.proofs.Callings.{Along}
use Rattle.life.specs.Lives.{terms_in, meaning_in, run_of}
use Rattle.life.proofs.life.Teller.call_all.Given as goal

abbrev pub invariant-loop-call : goal.invariant-loop-call
invariant-loop-call g l =
    let start = l.initial.life in
    Along (meaning_in start) l.self.product l.self.followed l.line l.calls (drop l.call-index l.calls) (run_of start) (run_of l.life)
    × (terms_in l.life ≡ terms_in start)
