use Rattle.std.proofs.Common.{◌∙◌, sym, arith, ◌+◌, ◌*◌, length, drop, get_or}
use Rattle.text_core.specs.Numbers.{value_of, digit_value}
use Rattle.text_core.proofs.DigitLemmas.{value-step, value-front}
use Rattle.text_core.proofs.digits.value_in_base.Goals as goal

pub returns-in-None : goal.returns-in-None
returns-in-None c =
    let step = value-step c.args.base c.args.digits.now c.loop-byte.byte-index c.loop-byte.n c.loop-byte-test.true in
    let front = value-front c.args.base (c.loop-byte.n * c.args.base + digit_value (get_or c.args.digits.now c.loop-byte.byte-index 0)) (length (drop (c.loop-byte.byte-index + 1) c.args.digits.now)) (value_of c.args.base (drop (c.loop-byte.byte-index + 1) c.args.digits.now)) c.requires.0 in
    omega (arith, step, front, c.loop-byte.invariant, c.digit.ensures, c.in-None.ensures)

pub loop-byte-preserved : goal.loop-byte-preserved
loop-byte-preserved c =
    rw (c.in-Some.ensures, c.digit.ensures) (sym (value-step c.args.base c.args.digits.now c.loop-byte.byte-index c.loop-byte.n c.loop-byte-test.true) ∙ c.loop-byte.invariant)
