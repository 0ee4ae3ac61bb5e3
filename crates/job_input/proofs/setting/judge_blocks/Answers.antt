use Rattle.std.proofs.Common.{Vec, Global}
use Rattle.outcome.specs.Outcome.{Within}
use Rattle.gf_basis.specs.declared.bases.Basis.{Basis}
use Rattle.job_words.specs.declared.fault.Fault.TheVariants.{Signature}
use Rattle.job_words.proofs.StepLemmas.{gives_fault}
use Rattle.job_input.specs.SettingOf.{BasesOf, BlocksHaveBases}
use Rattle.job_input.specs.Setting.{elements_of_each}
use Rattle.job_input.proofs.BasesLemmas.{blocks_step}
use Rattle.job_input.proofs.BlockBasesLemmas.{blocks_end, blocks_fail}
use Rattle.job_input.proofs.setting.judge_blocks.Goals as goal

pub loop-block-preserved : goal.loop-block-preserved
loop-block-preserved g c =
    let k = g.F.Ring.degree c.args.poly.now.field.now in
    let product = g.F.Ring.product c.args.poly.now.field.now in
    let block = c.block-item.result in
    let are = rw c.words.ensures at c.in-Ok.ensures.gives in
    λ outcome rest. c.loop-block.invariant outcome
    (blocks_step k product c.args.blocks.now c.loop-block.block-index block block (elements_of_each c.in-Ok._bases.items) c.loop-block-test.true c.block-item.is are outcome rest)

pub loop-block-init : goal.loop-block-init
loop-block-init g c = λ outcome rest. rest

pub returns-in-Err : goal.returns-in-Err
returns-in-Err g c =
    let k = g.F.Ring.degree c.args.poly.now.field.now in
    let product = g.F.Ring.product c.args.poly.now.field.now in
    let block = c.block-item.result in
    gives_fault (λ (bases : Vec Basis Global). elements_of_each bases.items) (λ (u : Unit {0}). tt) c.in-Err.stop (Within Signature (BasesOf k product block.words)) (Within Signature (BlocksHaveBases k product c.args.blocks.now))
    (λ fault fails. (fails.0, c.loop-block.invariant _ (blocks_fail k product c.args.blocks.now c.loop-block.block-index block block c.loop-block-test.true c.block-item.is fails.0 fails.1), fails.2))
    (rw c.words.ensures at c.in-Err.ensures.gives)

pub returns : goal.returns
returns g c =
    c.loop-block.invariant _ (blocks_end (g.F.Ring.degree c.args.poly.now.field.now) (g.F.Ring.product c.args.poly.now.field.now) c.args.blocks.now c.loop-block.block-index c.loop-block-test.false)
