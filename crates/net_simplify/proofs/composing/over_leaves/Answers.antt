use Rattle.std.proofs.Common.{◌∙◌}
use Rattle.net_simplify.specs.Choice.{taken}
use Rattle.net_simplify.specs.private.Lists.{forms_of}
use Rattle.net_simplify.proofs.StepLemmas.{hold_all, rise_all}
use Rattle.net_simplify.proofs.composing.over_leaves.Goals as goal

pub table_over-table-requires-clause-hold : goal.table_over-table-requires-clause-hold
table_over-table-requires-clause-hold c = hold_all c.as_slice.result.now (taken (forms_of c.args.known.now) c.args.opened c.args.gate.now.inputs) (c.as_slice.ensures ∙ c.requires.leaves)

pub reduced-requires-clause-rises : goal.reduced-requires-clause-rises
reduced-requires-clause-rises c = rise_all c.args.leaves.items (taken (forms_of c.args.known.now) c.args.opened c.args.gate.now.inputs) c.requires.leaves
