use Rattle.std.proofs.Common.{◌≡◌, drop, map, take}
use Rattle.net_blif.specs.Connection.{actual_of}
use Rattle.net_flat.specs.Steps.{actual_steps}
use Rattle.net_flat.specs.private.LocalWalk.{local_walked, number_in, AreInside, HasEach}
use Rattle.net_flat.specs.private.WalkerState.{state_of}
use Rattle.net_flat.proofs.walker.Walker.place_actuals.Given as goal

-- the walk over all is that over what is left, and the numbers so far are those of the actuals so far
abbrev pub invariant-loop-place : goal.invariant-loop-place
invariant-loop-place l =
    record {
      inside : AreInside (state_of l.self);
      walk : local_walked (state_of l.fn.self) (actual_steps l.connections) ≡ local_walked (state_of l.self) (actual_steps (drop l.place l.connections));
      numbers : l.self.inputs.items ≡ map (number_in (state_of l.self)) (map actual_of (take l.place l.connections));
      found : HasEach (state_of l.self) (map actual_of (take l.place l.connections));
    }
