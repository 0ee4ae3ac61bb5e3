use Rattle.std.proofs.Common.{Some, None}
use Rattle.std.proofs.lemmas.Slice.Eq.{strip_prefix_is}
use Rattle.std.proofs.lemmas.Bool.Decides.{Decides-eqb}
use Rattle.net_signature.proofs.basis.after.Goals as goal

pub returns-in-Some-clause-found : goal.returns-in-Some-clause-found
returns-in-Some-clause-found c = strip_prefix_is Decides-eqb c.args.token.now c.args.front.now (Some c.in-Some.rest) c.in-Some.ensures.cases

pub returns-in-None-clause-none : goal.returns-in-None-clause-none
returns-in-None-clause-none c = strip_prefix_is Decides-eqb c.args.token.now c.args.front.now None c.in-None.ensures.cases
