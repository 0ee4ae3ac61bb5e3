use Rattle.std.proofs.Common.{◌≡◌, drop}
use Rattle.net_blif.specs.private.Connecting.{after, formals_in, with_input}
use Rattle.net_blif.proofs.formal_set.Formals.add_each_input.Given as goal

-- all of them add what those that are left add
abbrev pub invariant-loop-place : goal.invariant-loop-place
invariant-loop-place l = after with_input (formals_in l.fn.self) l.names ≡ after with_input (formals_in l.self) (drop l.place l.names)
