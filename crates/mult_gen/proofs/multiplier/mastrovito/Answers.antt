use Rattle.std.proofs.Common.{◌≡◌, ◌∙◌, ◌^◌, ℕ, [], ap, sym, subst}
use Rattle.gf_field.specs.Bit.{bit_mul}
use Rattle.gf_field.specs.Quotient.{product}
use Rattle.gf_field.specs.Ring2k.{degree_of, modulus_of}
use Rattle.gf_basis.specs.Basis.{first_values}
use Rattle.irreducible.specs.Proved.{ring_of}
use Rattle.net_core.specs.NetList.{NetList}
use Rattle.net_write.specs.Plain.{HasPlainNames}
use Rattle.make_nets.specs.Plan.{Plan}
use Rattle.make_nets.specs.Computes.{ComputesOfTwo}
use Rattle.make_nets.specs.Made.{made_of, IsPlanFor}
use Rattle.make_nets.proofs.MadeLemmas.{made_plain, made_sound}
use Rattle.mult_gen.specs.Form.{made_mastrovito, outputs_in}
use Rattle.mult_gen.proofs.FormLemmas.{wide_of}
use Rattle.mult_gen.proofs.ComputeLemmas.{mastrovito_computes, mastrovito_fits}
use Rattle.net_core.specs.Sound.{IsSound}
use Rattle.mult_gen.proofs.multiplier.mastrovito.Goals as goal

pub net_of-requires-clause-fits : goal.net_of-requires-clause-fits
net_of-requires-clause-fits c =
    let P : Plan → Type 0 = λ plan. IsPlanFor c.args.signature.now.words [] [] (outputs_in c.args.signature.now.words) plan in
    (outputs_in c.args.signature.now.words, subst P (sym c.in_ok-plan.ensures) (mastrovito_fits (degree_of (ring_of c.args.ring.now)) (modulus_of (ring_of c.args.ring.now)) c.args.ring.now.ring.fits.small c.args.signature.now.words c.in-Ok.ensures.form.ports.words (wide_of (degree_of (ring_of c.args.ring.now)) 2 c.args.signature.now.words c.in-Ok.ensures.form.ports.words c.requires.wide)))

pub returns-clause-sound : goal.returns-clause-sound
returns-clause-sound c =
    let P : NetList → Type 0 = λ net. IsSound net in
    let Q : Plan → Type 0 = λ plan. IsPlanFor c.args.signature.now.words [] [] (outputs_in c.args.signature.now.words) plan in
    let fits = subst Q (sym c.in_ok-plan.ensures) (mastrovito_fits (degree_of (ring_of c.args.ring.now)) (modulus_of (ring_of c.args.ring.now)) c.args.ring.now.ring.fits.small c.args.signature.now.words c.in-Ok.ensures.form.ports.words (wide_of (degree_of (ring_of c.args.ring.now)) 2 c.args.signature.now.words c.in-Ok.ensures.form.ports.words c.requires.wide)) in
    subst P (sym c.in_ok-net.ensures) (made_sound c.args.signature.now.words [] [] (outputs_in c.args.signature.now.words) c.in_ok-plan.plan c.in-Ok.ensures.form.ports.names fits)

pub returns-clause-plain : goal.returns-clause-plain
returns-clause-plain c =
    let P : NetList → Type 0 = λ net. HasPlainNames net in
    let Q : Plan → Type 0 = λ plan. IsPlanFor c.args.signature.now.words [] [] (outputs_in c.args.signature.now.words) plan in
    let fits = subst Q (sym c.in_ok-plan.ensures) (mastrovito_fits (degree_of (ring_of c.args.ring.now)) (modulus_of (ring_of c.args.ring.now)) c.args.ring.now.ring.fits.small c.args.signature.now.words c.in-Ok.ensures.form.ports.words (wide_of (degree_of (ring_of c.args.ring.now)) 2 c.args.signature.now.words c.in-Ok.ensures.form.ports.words c.requires.wide)) in
    subst P (sym c.in_ok-net.ensures) (made_plain c.args.signature.now.words [] [] (outputs_in c.args.signature.now.words) c.in_ok-plan.plan c.in-Ok.ensures.form.ports.names fits)

pub returns-clause-computes : goal.returns-clause-computes
returns-clause-computes c =
    let mul : ℕ → ℕ → ℕ = product 1 (degree_of (ring_of c.args.ring.now)) bit_mul (modulus_of (ring_of c.args.ring.now)) in
    let made : c.in_ok-net.net ≡ made_mastrovito (degree_of (ring_of c.args.ring.now)) (modulus_of (ring_of c.args.ring.now)) c.args.signature.now.words = c.in_ok-net.ensures ∙ ap (λ (plan : Plan). made_of c.args.signature.now.words [] [] plan) c.in_ok-plan.ensures in
    let P : NetList → Type 0 = λ net. ComputesOfTwo (degree_of (ring_of c.args.ring.now)) mul net c.args.signature.now.words (first_values (degree_of (ring_of c.args.ring.now)) (λ i. 2 ^ i)) 0 mul in
    subst P (sym made) (mastrovito_computes (degree_of (ring_of c.args.ring.now)) (modulus_of (ring_of c.args.ring.now)) c.args.ring.now.ring.fits c.args.ring.now.no_zero_divisors c.args.signature.now.words c.in-Ok.ensures.form.ports.words (wide_of (degree_of (ring_of c.args.ring.now)) 2 c.args.signature.now.words c.in-Ok.ensures.form.ports.words c.requires.wide) c.in-Ok.ensures.form.ports.names)
