use Rattle.std.proofs.Common.{arith}
use Rattle.text_core.proofs.WrittenDigitLemmas.{another, one_more}
use Rattle.text_core.proofs.written.+push_digits.Goals as goal

pub returns-then-number-lt16 : goal.returns-then-number-lt16
returns-then-number-lt16 t c = one_more c.args.text.now.items c.push.new.self.items c.args.number _ c.glyph-last.result c.in_ok-push.ensures.items c.glyph-last.ensures (omega arith) c.if-number-lt16.true

pub returns : goal.returns
returns t c =
    another c.args.text.now.items c.push_digits.new.text.items c.push-2.new.self.items c.args.number _ c.glyph-last.result c.in_ok-push_digits.ensures c.in_ok-push-2.ensures.items c.glyph-last.ensures (omega arith) (omega (arith, c.if-number-lt16.false)) (omega (arith, c.ranges.number.fits))
