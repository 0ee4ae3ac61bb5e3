use Rattle.std.proofs.Common.{◌≡◌, ◌∙◌, ap, ℕ, List}
use Rattle.gf_field.specs.Ring2k.{degree_of, modulus_of}
use Rattle.gf_tower.specs.Tower.{tower_polynomial}
use Rattle.gf_tower.specs.TowerParts.{base_of, coefficients_of, size_of}
use Rattle.irreducible.specs.Proved.{ring_of}
use Rattle.mult_composite.specs.Form.{made_composite}
use Rattle.mult_composite.proofs.multiplier.composite.Goals as goal

pub returns-clause-made : goal.returns-clause-made
returns-clause-made c =
    let tower = ring_of c.args.tower.now in
    let g : ℕ = modulus_of (ring_of (base_of tower)) in
    let cs : List ℕ = coefficients_of tower in
    let n_is : c.degree_below-n.result ≡ degree_of (ring_of (base_of tower)) = c.degree_below-n.ensures.is ∙ ap (λ below. degree_of (ring_of (base_of below))) c.ring.ensures in
    let m_is : c.size-m.result ≡ size_of tower = c.size-m.ensures.is ∙ ap (λ below. size_of below) c.ring-2.ensures in
    c.in_ok-net.ensures.made
    ∙ ap (λ (k : ℕ). made_composite k g c.size-m.result (tower_polynomial k cs) c.args.signature.now.words) n_is
    ∙ ap (λ (k : ℕ). made_composite (degree_of (ring_of (base_of tower))) g k (tower_polynomial (degree_of (ring_of (base_of tower))) cs) c.args.signature.now.words) m_is
