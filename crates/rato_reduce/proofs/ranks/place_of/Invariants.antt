use Rattle.std.proofs.Common.{◌≡◌, ◌≤◌, ◌-◌, ◌++◌, length, take, drop}
use Rattle.poly_mixed.specs.Product.{with_rank}
use Rattle.rato_reduce.proofs.ranks.place_of.Given as goal

abbrev pub invariant-loop-i : goal.invariant-loop-i
invariant-loop-i l = record { within : l.i ≤ length l.items; place : with_rank l.items l.r ≡ take l.i l.items ++ with_rank (drop l.i l.items) l.r }

abbrev pub decreases-loop-i : goal.decreases-loop-i
decreases-loop-i l = length l.items - l.i
