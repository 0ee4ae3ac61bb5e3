use Rattle.std.proofs.Common.{◌∙◌, ◌^◌, ◌*◌, ap, sym, subst, List, [], ℕ}
use Rattle.gf_field.specs.Bit.{bit_mul}
use Rattle.gf_field.specs.Quotient.{product}
use Rattle.gf_field.specs.Ring2k.{degree_of, modulus_of}
use Rattle.gf_basis.specs.Basis.{first_values}
use Rattle.gf_tower.specs.Tower.{tower_polynomial}
use Rattle.gf_tower.specs.TowerParts.{base_of, coefficients_of, size_of}
use Rattle.irreducible.specs.Proved.{ring_of}
use Rattle.net_core.specs.NetList.{NetList}
use Rattle.net_core.specs.Sound.{IsSound}
use Rattle.make_nets.specs.Plan.{Plan}
use Rattle.net_write.specs.Plain.{HasPlainNames}
use Rattle.make_nets.specs.Computes.{ComputesOfTwo}
use Rattle.make_nets.specs.Made.{made_of, IsPlanFor}
use Rattle.mult_gen.specs.Form.{outputs_in}
use Rattle.mult_composite.specs.Form.{plan_of_words}
use Rattle.mult_composite.proofs.MadeLemmas.{tower_fits, tower_sound, tower_plain, tower_computes}
use Rattle.mult_composite.proofs.multiplier.made.Goals as goal

pub net_of-requires-clause-fits : goal.net_of-requires-clause-fits
net_of-requires-clause-fits c =
    let tower = ring_of c.args.tower.now in
    let P : Plan → Type 0 = λ plan. (targets : List ℕ) × IsPlanFor c.args.signature.now.words [] [] targets plan in
    subst P (sym (c.in_ok-plan.ensures ∙ ap (λ below. plan_of_words c.args.n (modulus_of (ring_of (base_of below))) c.args.m (tower_polynomial c.args.n (coefficients_of below)) c.args.signature.now.words) c.ring.ensures))
    (outputs_in c.args.signature.now.words, tower_fits c.args.n (degree_of (ring_of (base_of tower))) c.args.m (size_of tower) (modulus_of (ring_of (base_of tower))) tower.low (coefficients_of tower) c.requires.degree c.requires.size tower.base.ring.fits tower.fits c.args.signature.now.words c.requires.ports.words c.requires.wide)

pub returns-clause-made : goal.returns-clause-made
returns-clause-made c =
    c.in_ok-net.ensures
    ∙ ap (λ (plan : Plan). made_of c.args.signature.now.words [] [] plan) (c.in_ok-plan.ensures ∙ ap (λ below. plan_of_words c.args.n (modulus_of (ring_of (base_of below))) c.args.m (tower_polynomial c.args.n (coefficients_of below)) c.args.signature.now.words) c.ring.ensures)

pub returns-clause-sound : goal.returns-clause-sound
returns-clause-sound c =
    let tower = ring_of c.args.tower.now in
    subst IsSound (sym (returns-clause-made c)) (tower_sound c.args.n (degree_of (ring_of (base_of tower))) c.args.m (size_of tower) (modulus_of (ring_of (base_of tower))) tower.low (coefficients_of tower) c.requires.degree c.requires.size tower.base.ring.fits tower.fits c.args.signature.now.words c.requires.ports.words c.requires.wide c.requires.ports.names)

pub returns-clause-plain : goal.returns-clause-plain
returns-clause-plain c =
    let tower = ring_of c.args.tower.now in
    subst HasPlainNames (sym (returns-clause-made c)) (tower_plain c.args.n (degree_of (ring_of (base_of tower))) c.args.m (size_of tower) (modulus_of (ring_of (base_of tower))) tower.low (coefficients_of tower) c.requires.degree c.requires.size tower.base.ring.fits tower.fits c.args.signature.now.words c.requires.ports.words c.requires.wide c.requires.ports.names)

pub returns-clause-computes : goal.returns-clause-computes
returns-clause-computes c =
    let tower = ring_of c.args.tower.now in
    let P : NetList → Type 0 = λ net. ComputesOfTwo (c.args.n * c.args.m) (product c.args.n c.args.m (product 1 c.args.n bit_mul (modulus_of (ring_of (base_of tower)))) (tower_polynomial c.args.n (coefficients_of tower))) net c.args.signature.now.words (first_values (c.args.n * c.args.m) (λ i. 2 ^ i)) 0 (product c.args.n c.args.m (product 1 c.args.n bit_mul (modulus_of (ring_of (base_of tower)))) (tower_polynomial c.args.n (coefficients_of tower))) in
    subst P (sym (returns-clause-made c)) (tower_computes c.args.n (degree_of (ring_of (base_of tower))) c.args.m (size_of tower) (modulus_of (ring_of (base_of tower))) tower.low (coefficients_of tower) c.requires.degree c.requires.size tower.base.ring.fits tower.fits c.args.signature.now.words c.requires.ports.words c.requires.wide c.requires.ports.names c.args.tower.now.no_zero_divisors)
