use Rattle.std.proofs.Common.{◌≡◌, ◌++◌, drop, map, string_bytes}
use Rattle.compose_wiring.specs.private.Keys.{spaced}
use Rattle.compose_wiring.proofs.nets.add_names.Given as goal

abbrev pub invariant-loop-place : goal.invariant-loop-place
invariant-loop-place l = string_bytes l.text ++ spaced (drop l.place (map (λ name. name.now) l.names)) ≡ string_bytes l.fn.text ++ spaced (map (λ name. name.now) l.names)
