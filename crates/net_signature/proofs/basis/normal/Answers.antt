use Rattle.std.proofs.Common.{refl}
use Rattle.net_signature.proofs.BasisLemmas.{normal-none}
use Rattle.net_signature.proofs.basis.normal.Goals as goal

pub returns-in-None-clause-fits : goal.returns-in-None-clause-fits
returns-in-None-clause-fits c = (refl, normal-none c.args.token.now c.in-None.ensures.none)
