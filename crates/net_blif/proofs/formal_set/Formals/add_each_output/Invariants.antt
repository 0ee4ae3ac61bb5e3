use Rattle.std.proofs.Common.{◌≡◌, drop}
use Rattle.net_blif.specs.private.Connecting.{after, formals_in, with_output}
use Rattle.net_blif.proofs.formal_set.Formals.add_each_output.Given as goal

-- all of them add what those that are left add
abbrev pub invariant-loop-place : goal.invariant-loop-place
invariant-loop-place l = after with_output (formals_in l.fn.self) l.names ≡ after with_output (formals_in l.self) (drop l.place l.names)
