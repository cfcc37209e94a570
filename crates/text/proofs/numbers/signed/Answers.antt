use Rattle.std.proofs.Common.{◌<◌, Some, None, sym, ◌∙◌, ap, arith}
use Rattle.std.proofs.lemmas.Int.{ints}
use Rattle.text.specs.Numbers.{digits_value}
use Rattle.text.proofs.Minus.{with_minus, without_minus}
use Rattle.text.proofs.numbers.signed.Goals as goal

pub returns-in_err-n-in-Some : goal.returns-in_err-n-in-Some
returns-in_err-n-in-Some c =
    let h = c.in-Some.ensures.cases in
    c.from_residual.ensures ∙ sym (with_minus c.args.s.now h.0 None (c.in_err-n-in-Some.ensures.value ∙ ap digits_value h.1))

pub returns-in_err-n-in-None : goal.returns-in_err-n-in-None
returns-in_err-n-in-None c =
    c.from_residual-in_err-n-in-None.ensures ∙ sym (without_minus c.args.s.now c.in-None.ensures.cases None c.in_err-n-in-None.ensures.value)

pub returns-in_ok-n-in-Some : goal.returns-in_ok-n-in-Some
returns-in_ok-n-in-Some c =
    let h = c.in-Some.ensures.cases in
    let n = c.in_ok-n-in-Some.n in
    let bound : n < 1000000000 = c.in_ok-n-in-Some.ensures.bound in
    rw (with_minus c.args.s.now h.0 (Some n) (c.in_ok-n-in-Some.ensures.value ∙ ap digits_value h.1)) (ap Some (omega (arith, ints)))

pub returns-in_ok-n-in-None : goal.returns-in_ok-n-in-None
returns-in_ok-n-in-None c =
    let n = c.in_ok-n-in-None.n in
    let bound : n < 1000000000 = c.in_ok-n-in-None.ensures.bound in
    rw (without_minus c.args.s.now c.in-None.ensures.cases (Some n) c.in_ok-n-in-None.ensures.value) (ap Some (omega (arith, ints)))
