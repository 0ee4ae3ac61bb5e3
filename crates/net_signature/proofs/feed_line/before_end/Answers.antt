use Rattle.std.proofs.Common.{Some, None, codes}
use Rattle.std.proofs.lemmas.Slice.Eq.{strip_suffix_is}
use Rattle.std.proofs.lemmas.Bool.Decides.{Decides-eqb}
use Rattle.net_signature.proofs.feed_line.before_end.Goals as goal

pub returns-in-Some-clause-found : goal.returns-in-Some-clause-found
returns-in-Some-clause-found c = strip_suffix_is Decides-eqb c.args.token.now (codes "]") (Some c.in-Some.front) c.in-Some.ensures.cases

pub returns-in-None-clause-none : goal.returns-in-None-clause-none
returns-in-None-clause-none c = strip_suffix_is Decides-eqb c.args.token.now (codes "]") None c.in-None.ensures.cases
