use Rattle.std.proofs.Common.{◌≡◌, take}
use Rattle.net_blif.proofs.once.copied.Given as goal

-- the tokens so far
abbrev pub invariant-loop-place : goal.invariant-loop-place
invariant-loop-place l = l.list.items ≡ take l.place l.tokens
