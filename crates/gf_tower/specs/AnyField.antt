-- What an `AnyField` is made of. Source: this project's own.
use Rattle.std.specs.Prelude.{◌≡◌, ℕ, List, []}
use Rattle.gf_field.specs.Ring2k.{modulus_of}
use Rattle.irreducible.specs.Proved.{ring_of}
use Rattle.gf_tower.specs.TowerParts.{base_of, coefficients_of}
use Rattle.gf_tower.specs.declared.any_field.AnyField.{AnyField}
use Rattle.gf_tower.specs.declared.any_field.AnyField.TheVariants.{Base, Tower, Upper}

-- its modulus and the coefficients of its tower steps, none for a step that it has not
abbrev pub IsMadeOf : AnyField → ℕ → List ℕ → List ℕ → Type 0
IsMadeOf (Base field) g cs us = (modulus_of (ring_of field) ≡ g) × (cs ≡ []) × (us ≡ [])
IsMadeOf (Tower field) g cs us =
    (modulus_of (ring_of (base_of (ring_of field))) ≡ g) × (coefficients_of (ring_of field) ≡ cs) × (us ≡ [])
IsMadeOf (Upper field) g cs us =
    (modulus_of (ring_of (base_of (ring_of (base_of (ring_of field))))) ≡ g)
    × (coefficients_of (ring_of (base_of (ring_of field))) ≡ cs)
    × (coefficients_of (ring_of field) ≡ us)
