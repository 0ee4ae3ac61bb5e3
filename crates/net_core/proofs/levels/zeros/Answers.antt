use Rattle.std.proofs.Common.{refl, rules, ℕ, get_or}
use Rattle.lists.specs.laws.ReadLaws.{got_at}
use Rattle.net_core.proofs.LevelLemmas.{no_zeros, one_zero_more, zeros_all}
use Rattle.net_core.proofs.levels.zeros.Goals as goal

pub loop-source-init : goal.loop-source-init
loop-source-init c = no_zeros c.args.nets c.args.sources.now c.in_ok-levels.levels.items (c.in_ok-levels.ensures.items_if_clones_equal (λ y e. search rules))

pub loop-source-preserved : goal.loop-source-preserved
loop-source-preserved c =
    let i : ℕ = c.loop-source.source-index in
    let source : ℕ = get_or c.args.sources.now i 0 in
    one_zero_more c.args.nets c.args.sources.now i source c.loop-source.levels.items (c.requires i 0 c.loop-source-test.true) (got_at c.args.sources.now i source 0 c.loop-source-test.true refl) c.loop-source.invariant

pub returns : goal.returns
returns c = zeros_all c.args.nets c.args.sources.now c.loop-source.source-index c.loop-source.levels.items c.loop-source-test.false c.loop-source.invariant
