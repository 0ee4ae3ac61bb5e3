use Rattle.std.proofs.Common.{◌∙◌, ◌^◌, ap, sym, subst, List, [], ℕ}
use Rattle.gf_field.specs.Bit.{bit_mul}
use Rattle.gf_field.specs.Quotient.{product}
use Rattle.gf_field.specs.Ring2k.{degree_of, modulus_of}
use Rattle.gf_basis.specs.Basis.{first_values}
use Rattle.irreducible.specs.Proved.{ring_of}
use Rattle.net_core.specs.NetList.{NetList}
use Rattle.net_core.specs.Sound.{IsSound}
use Rattle.make_nets.specs.Plan.{Plan}
use Rattle.net_write.specs.Plain.{HasPlainNames}
use Rattle.make_nets.specs.Computes.{ComputesOfTwo}
use Rattle.make_nets.specs.Made.{made_of, IsPlanFor}
use Rattle.mult_gen.specs.Form.{outputs_in}
use Rattle.mult_montgomery.specs.Form.{montgomery_product}
use Rattle.mult_montgomery.proofs.MadeLemmas.{fits, sound, plain, computes}
use Rattle.mult_montgomery.proofs.multiplier.made.Goals as goal

pub plan_of-requires-clause-some : goal.plan_of-requires-clause-some
plan_of-requires-clause-some c = c.args.ring.now.ring.fits.some

pub plan_of-requires-clause-small : goal.plan_of-requires-clause-small
plan_of-requires-clause-small c = c.args.ring.now.ring.fits.small

pub net_of-requires-clause-fits : goal.net_of-requires-clause-fits
net_of-requires-clause-fits c =
    let ring = ring_of c.args.ring.now in
    let P : Plan → Type 0 = λ plan. (targets : List ℕ) × IsPlanFor c.args.signature.now.words [] [] targets plan in
    subst P (sym c.in_ok-plan.ensures) (outputs_in c.args.signature.now.words, fits (degree_of ring) (modulus_of ring) c.args.ring.now.ring.fits c.args.signature.now.words c.requires.ports.words c.requires.wide)

pub returns-clause-made : goal.returns-clause-made
returns-clause-made c = c.in_ok-net.ensures ∙ ap (λ (plan : Plan). made_of c.args.signature.now.words [] [] plan) c.in_ok-plan.ensures

pub returns-clause-sound : goal.returns-clause-sound
returns-clause-sound c =
    let ring = ring_of c.args.ring.now in
    subst IsSound (sym (returns-clause-made c)) (sound (degree_of ring) (modulus_of ring) c.args.ring.now.ring.fits c.args.signature.now.words c.requires.ports.words c.requires.wide c.requires.ports.names)

pub returns-clause-plain : goal.returns-clause-plain
returns-clause-plain c =
    let ring = ring_of c.args.ring.now in
    subst HasPlainNames (sym (returns-clause-made c)) (plain (degree_of ring) (modulus_of ring) c.args.ring.now.ring.fits c.args.signature.now.words c.requires.ports.words c.requires.wide c.requires.ports.names)

pub returns-clause-computes : goal.returns-clause-computes
returns-clause-computes c = λ r inverse.
    let ring = ring_of c.args.ring.now in
    let k : ℕ = degree_of ring in
    let g : ℕ = modulus_of ring in
    let P : NetList → Type 0 = λ net. ComputesOfTwo k (product 1 k bit_mul g) net c.args.signature.now.words (first_values k (λ i. 2 ^ i)) 0 (montgomery_product k g r) in
    subst P (sym (returns-clause-made c)) (computes k g c.args.ring.now.ring.fits c.args.signature.now.words c.requires.ports.words c.requires.wide c.requires.ports.names c.args.ring.now.no_zero_divisors c.requires.modulus r inverse)
