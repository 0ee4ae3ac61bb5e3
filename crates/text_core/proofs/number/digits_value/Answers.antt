use Rattle.std.proofs.Common.{◌∙◌, sym, arith, ◌+◌, ◌*◌, length, drop, below_more, get_or}
use Rattle.text_core.specs.Numbers.{value_of, digit_value}
use Rattle.text_core.proofs.DigitLemmas.{value-step, value-front, value-end}
use Rattle.text_core.proofs.number.digits_value.Goals as goal

pub returns-in_default-clause-none : goal.returns-in_default-clause-none
returns-in_default-clause-none c = λ are within.
    let step = value-step c.args.base c.args.digits.now c.loop-byte.byte-index c.loop-byte.value c.loop-byte-test.true in
    let front = value-front c.args.base (c.loop-byte.value * c.args.base + digit_value (get_or c.args.digits.now c.loop-byte.byte-index 0)) (length (drop (c.loop-byte.byte-index + 1) c.args.digits.now)) (value_of c.args.base (drop (c.loop-byte.byte-index + 1) c.args.digits.now)) c.requires in
    omega (arith, step, front, c.loop-byte.invariant.value, c.in_ok-digit.ensures.found.1, (c.in_default.ensures).none)

pub loop-byte-preserved : goal.loop-byte-preserved
loop-byte-preserved c =
    record {
      value = rw (c.in-Some.ensures.found.0, c.in_ok-digit.ensures.found.1) (sym (value-step c.args.base c.args.digits.now c.loop-byte.byte-index c.loop-byte.value c.loop-byte-test.true) ∙ c.loop-byte.invariant.value);
      within = c.in-Some.ensures.found.1;
      digits = below_more _ _ c.loop-byte.invariant.digits c.in_ok-digit.ensures.found.0;
      some = c.loop-byte.invariant.some;
    }

pub returns-clause-found : goal.returns-clause-found
returns-clause-found c =
    ((c.loop-byte.invariant.some, λ k less. c.loop-byte.invariant.digits k (omega arith)), sym (value-end c.args.base c.args.digits.now c.loop-byte.byte-index c.loop-byte.value c.loop-byte-test.false) ∙ c.loop-byte.invariant.value, c.loop-byte.invariant.within)
