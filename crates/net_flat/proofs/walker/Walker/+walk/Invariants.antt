use Rattle.std.proofs.Common.{◌≡◌, ◌+◌, ◌-◌, ◌*◌, ◌≤◌, drop}
use Rattle.net_flat.specs.private.LocalWalk.{local_lines, local_within, AreInside}
use Rattle.net_flat.specs.private.WalkerState.{state_of}
use Rattle.net_flat.proofs.walker.Walker.+walk.Given as goal

abbrev pub decreases-line : goal.decreases-line
decreases-line l = 3 * l.depth + 3

abbrev pub decreases-instance : goal.decreases-instance
decreases-instance l = 3 * l.depth + 2

abbrev pub decreases-walk : goal.decreases-walk
decreases-walk l = 3 * l.depth + 1

-- the walk over all lines is that over what is left
abbrev pub invariant-walk-loop-place : goal.invariant-walk-loop-place
invariant-walk-loop-place l =
    record {
      inside : AreInside (state_of l.self);
      few : l.met ≤ l.place;
      walk : local_lines (local_within (l.depth - 1) l.design) l.design (state_of l.fn.self) 1 l.lines ≡ local_lines (local_within (l.depth - 1) l.design) l.design (state_of l.self) (l.met + 1) (drop l.place l.lines);
    }
