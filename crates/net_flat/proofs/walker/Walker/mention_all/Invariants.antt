use Rattle.std.proofs.Common.{◌≡◌, drop, map, take}
use Rattle.net_flat.specs.Steps.{Mention}
use Rattle.net_flat.specs.private.LocalWalk.{local_walked, number_in, AreInside, HasEach}
use Rattle.net_flat.specs.private.WalkerState.{state_of}
use Rattle.net_flat.proofs.walker.Walker.mention_all.Given as goal

-- the walk over all is that over what is left, and the numbers so far are those of the names so far
abbrev pub invariant-loop-place : goal.invariant-loop-place
invariant-loop-place l =
    record {
      inside : AreInside (state_of l.self);
      walk : local_walked (state_of l.fn.self) (map Mention l.names) ≡ local_walked (state_of l.self) (map Mention (drop l.place l.names));
      numbers : l.self.inputs.items ≡ map (number_in (state_of l.self)) (map (λ name. name) (take l.place l.names));
      found : HasEach (state_of l.self) (map (λ name. name) (take l.place l.names));
    }
