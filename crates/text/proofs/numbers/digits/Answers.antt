use Rattle.std.proofs.Common.{sym, ◌∙◌, inl, inr, ⊎_elim, arith, eqb-true, false-eqb}
use Rattle.text.proofs.ReadDigits.{wrong-length, right-length, goes, stops, ends, digit-more, ten-power}
use Rattle.text.proofs.numbers.digits.Goals as goal

pub returns-then-is_empty-clause-value : goal.returns-then-is_empty-clause-value
returns-then-is_empty-clause-value c =
    wrong-length c.args.s.now (⊎_elim (λ e. inl (eqb-true _ _ (sym c.is_empty.ensures ∙ e))) (λ p. inr p.1) c.then-is_empty.either)

pub returns-then-not-is_ascii_digit-clause-value : goal.returns-then-not-is_ascii_digit-clause-value
returns-then-not-is_ascii_digit-clause-value c =
    let some = false-eqb _ _ c.if-is_empty.ensures in
    sym (right-length c.args.s.now (omega arith) c.if-s-gt9.false ∙ sym c.loop-b.invariant.0 ∙ stops c.loop-b.n c.args.s.now c.loop-b.b-index c.loop-b-test.true (sym c.if-not-is_ascii_digit.ensures.value))

pub overflow_mul-n : goal.overflow_mul-n
overflow_mul-n c = record { fits = omega (arith, ten-power c.loop-b.b-index 8 (omega arith)) }

pub overflow_add-n : goal.overflow_add-n
overflow_add-n c = record { fits = omega (arith, ten-power c.loop-b.b-index 8 (omega arith)) }

pub loop-b-preserved : goal.loop-b-preserved
loop-b-preserved c = (
  rw c.from.ensures (sym (goes c.loop-b.n c.args.s.now c.loop-b.b-index c.loop-b-test.true (sym c.if-not-is_ascii_digit.ensures.value)) ∙ c.loop-b.invariant.0),
  digit-more c.loop-b.n c.loop-b.b-index _ c.loop-b.invariant.1 (omega (arith, c.if-not-is_ascii_digit.ensures.cases)),
  c.loop-b.invariant.2,
)

pub returns-clause-value : goal.returns-clause-value
returns-clause-value c =
    let some = false-eqb _ _ c.if-is_empty.ensures in
    sym (right-length c.args.s.now (omega arith) c.if-s-gt9.false ∙ sym c.loop-b.invariant.0 ∙ ends c.loop-b.n c.args.s.now c.loop-b.b-index c.loop-b-test.false)
