use Rattle.std.proofs.Common.{◌≡◌, refl, arith, Some, ℕ, get_or}
use Rattle.std.specs.Prelude.{slice_get}
use Rattle.lists.specs.laws.ReadLaws.{got_at}
use Rattle.net_core.proofs.LevelLemmas.{inputs_known, all_levels_found, known_step}
use Rattle.net_core.proofs.levels.levels_by.Goals as goal

pub give_level-done-requires-clause-point : goal.give_level-done-requires-clause-point
give_level-done-requires-clause-point c =
    let i : ℕ = c.loop-point.point-index in
    let here : slice_get c.args.order.now i ≡ Some (get_or c.args.order.now i 0) = got_at c.args.order.now i (get_or c.args.order.now i 0) 0 c.loop-point-test.true refl in
    omega (arith, c.requires.order.2.inside (get_or c.args.order.now i 0) (i, here), c.requires.order.1.long)

pub give_level-done-requires-clause-inputs : goal.give_level-done-requires-clause-inputs
give_level-done-requires-clause-inputs c =
    let i : ℕ = c.loop-point.point-index in
    let here : slice_get c.args.order.now i ≡ Some (get_or c.args.order.now i 0) = got_at c.args.order.now i (get_or c.args.order.now i 0) 0 c.loop-point-test.true refl in
    inputs_known c.args.net.now c.requires.order.0 c.loop-point.levels.items _ c.args.order.now i (get_or c.args.order.now i 0) c.requires.order.1 c.requires.order.2 here c.loop-point.invariant.known

pub loop-point-preserved : goal.loop-point-preserved
loop-point-preserved c =
    let i : ℕ = c.loop-point.point-index in
    let here : slice_get c.args.order.now i ≡ Some (get_or c.args.order.now i 0) = got_at c.args.order.now i (get_or c.args.order.now i 0) 0 c.loop-point-test.true refl in
    record {
      partial = c.give_level-done.ensures.partial;
      known = known_step c.loop-point.levels.items c.give_level-done.new.levels.items c.args.order.now i (get_or c.args.order.now i 0) here c.give_level-done.ensures.keeps c.give_level-done.ensures.known c.loop-point.invariant.known;
    }

pub returns : goal.returns
returns c = all_levels_found c.args.net.now c.requires.order.0 c.loop-point.levels.items c.args.order.now c.loop-point.done c.loop-point.point-index c.requires.order.2 c.loop-point.invariant.partial c.loop-point.invariant.known c.loop-point-test.false
