use Rattle.std.proofs.Common.{◌∙◌}
use Rattle.mult_montgomery.proofs.multiplier.montgomery.Goals as goal

pub returns-in-Err-clause-refused : goal.returns-in-Err-clause-refused
returns-in-Err-clause-refused c = λ is. absurd (c.if-modulus-eq2.false (c.modulus.ensures ∙ is))

pub returns-in_err-net-clause-refused : goal.returns-in_err-net-clause-refused
returns-in_err-net-clause-refused c = λ is. absurd (c.if-modulus-eq2.false (c.modulus.ensures ∙ is))

pub returns-clause-refused : goal.returns-clause-refused
returns-clause-refused c = λ is. absurd (c.if-modulus-eq2.false (c.modulus.ensures ∙ is))
