use Rattle.make_laws.proofs.DigitRunLemmas.{digit_nets_multiply}
use Rattle.make_laws.proofs.run_laws.fed_nets_multiply.Goals as goal

pub returns : goal.returns
returns c circuit x width nets well units are = digit_nets_multiply circuit x width nets well units are
