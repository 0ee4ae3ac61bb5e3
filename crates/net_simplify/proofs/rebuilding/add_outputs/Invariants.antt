use Rattle.std.proofs.Common.{◌≡◌, ◌++◌, take}
use Rattle.net_simplify.proofs.rebuilding.add_outputs.Given as goal

abbrev pub invariant-loop-output : goal.invariant-loop-output
invariant-loop-output l = l.maker ≡ record l.fn.maker { outputs = l.fn.maker.outputs ++ take l.output-index l.net.outputs }
