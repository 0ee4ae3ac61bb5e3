use Rattle.std.proofs.Common.{◌≡◌, ◌++◌, take}
use Rattle.net_simplify.proofs.rebuilding.add_inputs.Given as goal

abbrev pub invariant-loop-input : goal.invariant-loop-input
invariant-loop-input l = l.maker ≡ record l.fn.maker { inputs = l.fn.maker.inputs ++ take l.input-index l.net.inputs }
