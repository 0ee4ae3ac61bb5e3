use Rattle.std.proofs.Common.{arith}
use Rattle.mult_digit.proofs.BindingLemmas.{factor_low}
use Rattle.mult_digit.proofs.FormLemmas.{not_now}
use Rattle.mult_digit.proofs.form.width_of.Goals as goal

pub loop-width-preserved : goal.loop-width-preserved
loop-width-preserved c = λ w less are. not_now c.args.k c.loop-width.width c.args.feeds.now c.are_digits.result c.if-are_digits.false c.are_digits.ensures.1 c.loop-width.invariant w less are

pub returns-clause-none : goal.returns-clause-none
returns-clause-none c = λ width are. absurd (c.loop-width.invariant width (omega (arith, factor_low width are.count c.args.k c.requires.some are.whole, c.loop-width-test.false)) are)
