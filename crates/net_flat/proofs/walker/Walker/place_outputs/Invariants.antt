use Rattle.std.proofs.Common.{◌≡◌, drop}
use Rattle.std.specs.Prelude.{flat_map}
use Rattle.net_flat.specs.Steps.{output_steps}
use Rattle.net_flat.specs.private.LocalWalk.{is_in_top, local_walked, AreInside}
use Rattle.net_flat.specs.private.WalkerState.{state_of}
use Rattle.net_flat.proofs.walker.Walker.place_outputs.Given as goal

-- the walk over all is that over what is left
abbrev pub invariant-loop-place : goal.invariant-loop-place
invariant-loop-place l =
    record {
      top : is_in_top (state_of l.self).local ≡ is_in_top (state_of l.fn.self).local;
      inside : AreInside (state_of l.self);
      walk : local_walked (state_of l.fn.self) (flat_map (output_steps (is_in_top (state_of l.fn.self).local)) l.names) ≡ local_walked (state_of l.self) (flat_map (output_steps (is_in_top (state_of l.fn.self).local)) (drop l.place l.names));
    }
