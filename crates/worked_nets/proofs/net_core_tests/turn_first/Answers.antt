use Rattle.std.proofs.Common.{ap, arith, length, ◌<◌}
use Rattle.std.proofs.Math.Pow.{pow_mono}
use Rattle.lists.specs.laws.ReadLaws.{get_below}
use Rattle.worked_nets.proofs.net_core_tests.turn_first.Goals as goal

pub turn-requires : goal.turn-requires
turn-requires c =
    let less : 0 < length c.args.net.now.gates = omega (arith, ap length c.gates.ensures.gates) in
    let at = get_below c.args.net.now.gates 0 less in
    (at.0, at.1, omega (arith, pow_mono {i = 0} {j = length at.0.inputs} (omega arith)))
