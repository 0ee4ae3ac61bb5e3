-- So many inner nets have their names.
use Rattle.std.proofs.Common.{◌≡◌}
use Rattle.make_nets.specs.MadeNet.{with_inner}
use Rattle.make_nets.proofs.names.add_inner_names.Given as goal

abbrev pub invariant-loop-i : goal.invariant-loop-i
invariant-loop-i l = l.maker ≡ with_inner l.fn.maker l.fn.prefix l.i-counter
