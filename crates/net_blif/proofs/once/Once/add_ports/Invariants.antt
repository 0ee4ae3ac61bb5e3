use Rattle.std.proofs.Common.{◌≡◌, drop}
use Rattle.net_blif.specs.private.Connecting.{after}
use Rattle.net_blif.specs.private.Once.{once_in, with_one_port}
use Rattle.net_blif.proofs.once.Once.add_ports.Given as goal

-- all of them add what those that are left add
abbrev pub invariant-loop-place : goal.invariant-loop-place
invariant-loop-place l = after with_one_port (once_in l.fn.self) l.names ≡ after with_one_port (once_in l.self) (drop l.place l.names)
