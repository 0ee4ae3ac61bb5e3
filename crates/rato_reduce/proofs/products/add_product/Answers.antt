use Rattle.rato_reduce.specs.private.Rows.{term_bits}
use Rattle.rato_reduce.proofs.LevelLemmas.{up_to_more}
use Rattle.rato_reduce.proofs.products.add_product.Goals as goal

pub add_at-requires-clause-up_to : goal.add_at-requires-clause-up_to
add_at-requires-clause-up_to c = up_to_more c.args.cut.now.places c.args.level c.greater_of-greater.result (term_bits c.args.term.now) c.requires.up_to c.greater_of-greater.ensures.one

pub add_at-requires-clause-set : goal.add_at-requires-clause-set
add_at-requires-clause-set c = up_to_more c.args.cut.now.places c.args.set_level c.greater_of-greater.result c.args.set.now c.requires.set c.greater_of-greater.ensures.other
