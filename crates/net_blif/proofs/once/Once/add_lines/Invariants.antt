use Rattle.std.proofs.Common.{◌≡◌, drop}
use Rattle.net_blif.specs.private.Connecting.{after}
use Rattle.net_blif.specs.private.Once.{once_in, with_line}
use Rattle.net_blif.proofs.once.Once.add_lines.Given as goal

-- all of them add what those that are left add
abbrev pub invariant-loop-place : goal.invariant-loop-place
invariant-loop-place l = after with_line (once_in l.fn.self) l.items ≡ after with_line (once_in l.self) (drop l.place l.items)
