use Rattle.std.proofs.Common.{◌≡◌, ◌++◌, drop}
use Rattle.std.specs.Prelude.{flat_map}
use Rattle.net_write.specs.Written.{gate_statements, text_with}
use Rattle.net_write.proofs.write.add_gates.Given as goal

abbrev pub invariant-loop-gate : goal.invariant-loop-gate
invariant-loop-gate l = l.out.items ++ text_with (flat_map (gate_statements l.net) (drop l.gate-index l.gate-items)) ≡ l.initial.out.items ++ text_with (flat_map (gate_statements l.net) l.gate-items)
