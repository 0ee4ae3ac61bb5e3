use Rattle.std.proofs.Common.{◌∙◌, sym, map}
use Rattle.std.proofs.lemmas.List.{length-map}
use Rattle.gf_basis.specs.BasisParts.{elements_of}
use Rattle.job_input.proofs.SettingWordLemmas.{bases_long}
use Rattle.answer_composition.proofs.block_bases.all_bases.Goals as goal

pub returns-in-Ok-clause-are : goal.returns-in-Ok-clause-are
returns-in-Ok-clause-are g c =
    let k = g.F.Ring.degree c.args.field.now in
    let product = g.F.Ring.product c.args.field.now in
    let words = c.args.signature.now.words in
    let top = c.in-Ok.top.items in
    let are = rw c.words.ensures at c.in-Ok.ensures.gives in
    rw c.blocks-in-Ok.ensures at (c.with_blocks.ensures.are words (sym (length-map top elements_of) ∙ bases_long k product words (map elements_of top) are))
