use Rattle.std.proofs.Common.{◌≡◌}
use Rattle.make_trial.specs.TwoInputs.{net_names}
use Rattle.make_trial.proofs.inputs.names_of.Given as goal

abbrev pub invariant-loop-i : goal.invariant-loop-i
invariant-loop-i l = l.names.items ≡ net_names l.letter l.i
