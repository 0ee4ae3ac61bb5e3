use Rattle.std.proofs.Common.{◌≡◌}
use Rattle.mult_montgomery.specs.Montgomery.{buffered as buffered_of}
use Rattle.make_nets.specs.Row.{row_of}
use Rattle.mult_montgomery.proofs.rounds.buffered.Given as goal

abbrev pub invariant-loop-j : goal.invariant-loop-j
invariant-loop-j l = l.plan ≡ buffered_of l.j l.z (row_of l.fn.plan l.row)
