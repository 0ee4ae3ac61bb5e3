use Rattle.std.proofs.Common.{◌≡◌, length, map, take}
use Rattle.net_core.specs.NetList.{nets}
use Rattle.unroll.specs.Places.{net_at}
use Rattle.unroll.proofs.plan.Plan.inputs_at.Given as goal

abbrev pub invariant-loop-i : goal.invariant-loop-i
invariant-loop-i l = record {
  made : take l.i l.out ≡ map (net_at (nets l.self.net) l.t) (take l.i l.inputs);
  whole : length l.out ≡ 6;
}
