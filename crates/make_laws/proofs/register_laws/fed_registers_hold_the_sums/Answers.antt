use Rattle.make_laws.proofs.DigitLemmas.{digit_sums}
use Rattle.make_laws.proofs.register_laws.fed_registers_hold_the_sums.Goals as goal

pub returns : goal.returns
returns g c = digit_sums _ _ (g.met.R.Ring.laws c.args._ring.now)
