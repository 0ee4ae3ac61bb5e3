use Rattle.rato_reduce.proofs.LevelLemmas.{up_to_append}
use Rattle.rato_reduce.proofs.products.term_level.Goals as goal

pub returns : goal.returns
returns c =
    let term = c.args.term.now in
    up_to_append c.args.cut.now.places c.args.front c.level_for-back.result c.greater_of.result term.front.now term.back.now c.requires c.level_for-back.ensures c.greater_of.ensures.one c.greater_of.ensures.other
