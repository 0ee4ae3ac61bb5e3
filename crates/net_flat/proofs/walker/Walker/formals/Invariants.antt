use Rattle.std.proofs.Common.{◌≡◌, drop}
use Rattle.net_flat.specs.private.KnownNumbers.{known_in}
use Rattle.net_flat.specs.private.LocalWalk.{numbers_of}
use Rattle.net_flat.specs.private.WalkerState.{state_of}
use Rattle.net_flat.proofs.walker.Walker.formals.Given as goal

-- the connections that are left have their numbers
abbrev pub invariant-loop-place : goal.invariant-loop-place
invariant-loop-place l = known_in l.known ≡ numbers_of (state_of l.self) (drop l.place l.connections)
