use Rattle.std.proofs.Common.{◌≡◌, ◌++◌, map, take}
use Rattle.net_simplify.specs.Simplified.{simple_gate}
use Rattle.net_simplify.specs.private.Lists.{forms_of}
use Rattle.net_simplify.specs.private.Marks.{count_at}
use Rattle.net_simplify.proofs.rebuilding.add_gates.Given as goal

abbrev pub invariant-loop-gate : goal.invariant-loop-gate
invariant-loop-gate l = l.maker ≡ record l.fn.maker { gates = l.fn.maker.gates ++ map (simple_gate (count_at l.marks) (forms_of l.known)) (take l.gate-index l.net.gates) }
