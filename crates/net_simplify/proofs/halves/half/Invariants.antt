use Rattle.std.proofs.Common.{◌≡◌, ◌<◌, ◌^◌, ℕ}
use Rattle.std.specs.Int.{bit_at}
use Rattle.net_simplify.specs.private.Lists.{with_place}
use Rattle.net_simplify.proofs.halves.half.Given as goal

abbrev pub invariant-loop-index : goal.invariant-loop-index
invariant-loop-index l = (l.found < 2 ^ l.index) × ((i : ℕ) → i < l.index → bit_at l.found i ≡ bit_at l.table (with_place l.place l.bit i))
