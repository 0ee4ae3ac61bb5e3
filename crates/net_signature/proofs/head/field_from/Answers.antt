use Rattle.std.proofs.Common.{refl, arith}
use Rattle.net_signature.proofs.ReaderLemmas.{field_none}
use Rattle.net_signature.proofs.head.field_from.Goals as goal

pub returns-in-None-clause-fits : goal.returns-in-None-clause-fits
returns-in-None-clause-fits c = (refl, field_none c.args.keyword.now c.args.modulus.now (λ n is below. c.in-None.ensures.none n is (omega (arith, below))))
