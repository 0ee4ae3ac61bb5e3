use Rattle.std.proofs.Common.{arith}
use Rattle.net_signature.proofs.element.read_element.Goals as goal

pub returns-in-None-clause-none : goal.returns-in-None-clause-none
returns-in-None-clause-none c = λ n says. c.in-None.ensures.none n says.0 (omega (arith, says.1, c.from.ensures))
