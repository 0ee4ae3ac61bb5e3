use Rattle.make_laws.proofs.DigitRunLemmas.{digit_nets_hold}
use Rattle.make_laws.proofs.run_laws.fed_nets_hold_the_sums.Goals as goal

pub returns : goal.returns
returns c circuit x width nets well units are = digit_nets_hold circuit x width nets well units are
