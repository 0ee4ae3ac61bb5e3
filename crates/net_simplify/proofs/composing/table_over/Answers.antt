use Rattle.net_simplify.specs.Choice.{taken}
use Rattle.net_simplify.specs.private.Lists.{forms_of}
use Rattle.net_simplify.proofs.HalfWordLemmas.{masked_word}
use Rattle.net_simplify.proofs.composing.table_over.Goals as goal

pub returns-clause-same : goal.returns-clause-same
returns-clause-same c = masked_word c.args.leaves.now c.inputs.result.now c.args.gate.now.inputs (taken (forms_of c.args.known.now) c.args.opened) c.table.result c.args.gate.now.table c.word_of_taken-word.result c.full.result c.inputs.ensures.inputs c.table.ensures.table c.full.ensures c.requires.hold c.word_of_taken-word.ensures
