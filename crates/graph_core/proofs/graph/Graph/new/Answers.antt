use Rattle.std.proofs.Common.{arith}
use Rattle.graph_core.proofs.RowLemmas.{none_fits, none_made}
use Rattle.graph_core.proofs.graph.Graph.new.Goals as goal

pub invariant_of-result : goal.invariant_of-result
invariant_of-result c = none_fits c.new.result.items c.in_ok-rows.rows.items c.args.points c.new.ensures.items c.in_ok-rows.ensures (omega arith)

pub returns : goal.returns
returns c = none_made c.new.result.items c.in_ok-rows.rows.items c.args.points c.new.ensures.items c.in_ok-rows.ensures
