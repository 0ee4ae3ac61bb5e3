use Rattle.std.proofs.Common.{◌≡◌, ◌++◌, take, drop}
use Rattle.net_aiger.specs.private.Run.{before_space}
use Rattle.net_aiger.proofs.names.before_space.Given as goal

-- no byte so far is a space
abbrev pub invariant-loop-i : goal.invariant-loop-i
invariant-loop-i l = take l.i l.bytes ++ before_space (drop l.i l.bytes) ≡ before_space l.bytes
