use Rattle.std.proofs.Common.{◌≡◌, ◌++◌, drop, map, string_bytes}
use Rattle.gf_basis.specs.BasisParts.{elements_of}
use Rattle.compose_wiring.specs.private.Keys.{hex_of, spaced}
use Rattle.compose_wiring.proofs.key.add_elements.Given as goal

abbrev pub invariant-loop-place : goal.invariant-loop-place
invariant-loop-place l = string_bytes l.text ++ spaced (drop l.place (map hex_of (elements_of l.basis))) ≡ string_bytes l.fn.text ++ spaced (map hex_of (elements_of l.basis))
