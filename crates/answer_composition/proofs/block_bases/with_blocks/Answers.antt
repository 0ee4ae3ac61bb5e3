use Rattle.std.proofs.Common.{rules}
use Rattle.answer_composition.proofs.BlockBaseLemmas.{lists_step, to_all, to_step}
use Rattle.answer_composition.proofs.block_bases.with_blocks.Goals as goal

pub loop-block-preserved : goal.loop-block-preserved
loop-block-preserved g c =
    let k = g.F.Ring.degree c.args.field.now in
    let product = g.F.Ring.product c.args.field.now in
    let blocks = c.args.blocks.now in
    let old = c.loop-block.bases in
    let new = c.push-in-loop-block.new.self in
    let list = c.in-Ok.list.items in
    let i = c.loop-block.block-index in
    let block = c.block-item.result in
    let are = rw c.words.ensures at c.in-Ok.ensures.gives in (
      (λ outcome rest. c.loop-block.invariant.0 outcome (lists_step k product old new list blocks i block block c.loop-block-test.true c.block-item.is c.in_ok-push-2.ensures.made are outcome rest)),
      λ words long. to_step k product words blocks old new list i block block c.loop-block-test.true c.block-item.is c.in_ok-push-2.ensures.made are c.in-Ok.ensures.over (c.loop-block.invariant.1 words long),
    )

pub returns-clause-are : goal.returns-clause-are
returns-clause-are g c =
    let k = g.F.Ring.degree c.args.field.now in
    let product = g.F.Ring.product c.args.field.now in
    λ words long. to_all k product words c.args.blocks.now c.loop-block.bases c.loop-block.block-index (search rules) (c.loop-block.invariant.1 words long)
