use Rattle.std.proofs.Common.{◌≡◌, drop}
use Rattle.net_blif.specs.private.Connecting.{after, formals_in, with_inputs_in}
use Rattle.net_blif.proofs.formal_set.Formals.add_inputs.Given as goal

-- all of them add what those that are left add
abbrev pub invariant-loop-place : goal.invariant-loop-place
invariant-loop-place l = after with_inputs_in (formals_in l.fn.self) l.items ≡ after with_inputs_in (formals_in l.self) (drop l.place l.items)
