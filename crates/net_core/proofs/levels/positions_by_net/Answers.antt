use Rattle.std.proofs.Common.{◌≡◌, ◌∙◌, arith, length-set, Some, ◌<◌, ◌≤◌, length}
use Rattle.std.specs.Prelude.{slice_get}
use Rattle.std.proofs.lemmas.Option.{slice_get_within}
use Rattle.lists.specs.laws.ReadLaws.{got_read}
use Rattle.net_core.specs.GateValue.{GateValue}
use Rattle.net_core.proofs.LevelLemmas.{positions_step}
use Rattle.net_core.proofs.levels.positions_by_net.Goals as goal

pub loop-position-preserved : goal.loop-position-preserved
loop-position-preserved c =
    let g : GateValue = c.gate-item.result in
    let less : c.loop-position.position < length c.args.net.now.gates = rw c.gates-gate-items.ensures.gates at c.loop-position-test.true in
    let here : slice_get c.args.net.now.gates c.loop-position.position ≡ Some g = got_read c.args.net.now.gates c.loop-position.position g less (rw c.gates-gate-items.ensures.gates at c.gate-item.is) in
    record {
      long = length-set _ _ _ ∙ c.loop-position.invariant.long;
      each = positions_step c.args.net.now c.loop-position.positions.items c.loop-position.position c.out.result g c.gates-gate-items.ensures.inside c.requires here c.out.ensures c.loop-position.invariant.long c.loop-position.invariant.each;
    }

pub returns-clause-positions : goal.returns-clause-positions
returns-clause-positions c = λ p g got.
    let past : length c.args.net.now.gates ≤ c.loop-position.position = rw c.gates-gate-items.ensures.gates at c.loop-position-test.false in
    c.loop-position.invariant.each p (omega (arith, slice_get_within c.args.net.now.gates p g got, past)) g got
