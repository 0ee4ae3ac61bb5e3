use Rattle.net_blif.proofs.ChainLemmas.{IsBuilt}
use Rattle.net_blif.proofs.chains.graph.Given as goal

-- the rows of the models so far
abbrev pub invariant-loop-model : goal.invariant-loop-model
invariant-loop-model l = IsBuilt l.models l.model l.graph
