use Rattle.std.proofs.Common.{vec_len}
use Rattle.graph_core.proofs.RowLemmas.{filled}
use Rattle.graph_core.proofs.graph.empty_rows.Goals as goal

pub returns : goal.returns
returns c = filled c.new-rows.result.items c.resize.new.self.items (record { start = 0; end = 0 }) c.args.count (vec_len c.new-rows.result) c.new-rows.ensures.items c.new-rows.ensures.len c.in_ok-resize.ensures.items
