-- What a `Proved` ring is made of. Source: this project's own.
use Rattle.gf_field.specs.declared.rings.Ring.{Ghosts}
use Rattle.irreducible.specs.declared.proved_rings.Proved.{Proved}

-- the ring
abbrev pub ring_of : {R T : Type 0} {G : Ghosts R T} → Proved R T G → R
ring_of field = field.ring
