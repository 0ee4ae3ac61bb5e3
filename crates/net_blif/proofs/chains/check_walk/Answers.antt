use Rattle.std.proofs.Common.{subst}
use Rattle.graph_core.specs.Graph.{Graph}
use Rattle.graph_core.specs.Cycle.{IsGrounded}
use Rattle.net_blif.proofs.ChainLemmas.{top_grounded}
use Rattle.net_blif.proofs.chains.check_walk.Goals as goal

pub returns-in-Ok-clause-ends : goal.returns-in-Ok-clause-ends
returns-in-Ok-clause-ends c = let P : Graph → Type 0 = λ g. IsGrounded g 0 in subst P c.requires.graph (top_grounded c.args.graph.now _ c.in-Ok.ensures.arranged)
