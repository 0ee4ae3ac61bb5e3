-- What a field of polynomials over 0 and 1 is made of. Source: this project's own.
use Rattle.std.specs.Prelude.{ℕ}
use Rattle.gf_field.specs.Bit.{bit_mul}
use Rattle.gf_field.specs.Quotient.{product}
use Rattle.gf_field.specs.Ring2k.{degree_of, modulus_of}
use Rattle.gf_field.specs.declared.rings.Ring.{Ghosts}
use Rattle.gf_field.specs.declared.ring_2k.Ring2k.{Ring2k}
use Rattle.irreducible.specs.Proved.{ring_of}
use Rattle.irreducible.specs.declared.proved_rings.Proved.{Proved}

-- its degree
abbrev pub degree_in : {T : Type 0} {G : Ghosts Ring2k T} → Proved Ring2k T G → ℕ
degree_in field = degree_of (ring_of field)

-- its modulus
abbrev pub modulus_in : {T : Type 0} {G : Ghosts Ring2k T} → Proved Ring2k T G → ℕ
modulus_in field = modulus_of (ring_of field)

-- its product
abbrev pub product_in : {T : Type 0} {G : Ghosts Ring2k T} → Proved Ring2k T G → ℕ → ℕ → ℕ
product_in field = product 1 (degree_of (ring_of field)) bit_mul (modulus_of (ring_of field))
