use Rattle.std.proofs.Common.{◌≡◌, take}
use Rattle.net_blif.specs.Chains.{row_of}
use Rattle.net_blif.proofs.chains.row.Given as goal

-- the models of the items so far
abbrev pub invariant-loop-place : goal.invariant-loop-place
invariant-loop-place l = l.row.items ≡ row_of l.models (take l.place l.items)
