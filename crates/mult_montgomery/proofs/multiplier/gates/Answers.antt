use Rattle.std.proofs.Common.{arith, ap, length, ◌*◌}
use Rattle.lists.specs.laws.NumberLaws.{mul_few}
use Rattle.make_nets.specs.Plan.{Plan}
use Rattle.mult_montgomery.proofs.multiplier.gates.Goals as goal

pub rounds-requires-clause-room : goal.rounds-requires-clause-room
rounds-requires-clause-room c = omega (arith, ap (λ (p : Plan). p.next) c.new-plan.ensures, c.requires.room, c.requires.small, mul_few (length c.args.b.now) (3 * length c.args.b.now) 64 192 c.requires.small (omega (arith, c.requires.small)))
