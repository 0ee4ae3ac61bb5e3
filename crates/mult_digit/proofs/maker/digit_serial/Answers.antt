use Rattle.std.proofs.Common.{refl, subst, ℕ, take}
use Rattle.gf_field.specs.Bit.{bit_mul}
use Rattle.gf_field.specs.Quotient.{product}
use Rattle.gf_field.specs.Ring2k.{degree_of, modulus_of}
use Rattle.gf_field.specs.laws.ModulusLaws.{IsRing-from_modulus}
use Rattle.irreducible.specs.Proved.{ring_of}
use Rattle.make_laws.specs.Indeterminate.{x_of}
use Rattle.mult_digit.specs.private.Front.{IsFront}
use Rattle.mult_digit.proofs.FinalLemmas.{digit_made, digit_plain, digit_product, form_from, names_from, unit_powers}
use Rattle.mult_digit.proofs.maker.digit_serial.Goals as goal

pub returns-in-Ok-clause-made : goal.returns-in-Ok-clause-made
returns-in-Ok-clause-made c =
    let k : ℕ = degree_of (ring_of c.args.ring.now) in
    let g : ℕ = modulus_of (ring_of c.args.ring.now) in
    let is : IsFront k c.in-Some.width c.args.signature.now = subst (λ (n : ℕ). IsFront n c.in-Some.width c.args.signature.now) c.k.ensures c.in-Some.ensures.some in
    digit_made k (product 1 k bit_mul g) (IsRing-from_modulus k g c.args.ring.now.ring.fits) c.args.ring.now.no_zero_divisors (x_of k g) (unit_powers k g c.args.ring.now.ring.fits) c.in-Some.width c.args.signature.now is c.requires.wide
    c.words.result.now c.words.ensures c.feeds.result.now (take c.in-Some.width c.feeds.result.now) c.feeds.ensures refl c.in-Ok.ensures.names c.in-Ok.net c.in-Ok.ensures.made

pub returns-in-Ok-clause-computes : goal.returns-in-Ok-clause-computes
returns-in-Ok-clause-computes c =
    let k : ℕ = degree_of (ring_of c.args.ring.now) in
    let g : ℕ = modulus_of (ring_of c.args.ring.now) in
    digit_product k (product 1 k bit_mul g) (IsRing-from_modulus k g c.args.ring.now.ring.fits) c.args.ring.now.no_zero_divisors (x_of k g) (unit_powers k g c.args.ring.now.ring.fits) c.args.signature.now c.requires.wide c.in-Ok.net

pub returns-in-Ok-clause-plain : goal.returns-in-Ok-clause-plain
returns-in-Ok-clause-plain c =
    let k : ℕ = degree_of (ring_of c.args.ring.now) in
    let g : ℕ = modulus_of (ring_of c.args.ring.now) in
    let is : IsFront k c.in-Some.width c.args.signature.now = subst (λ (n : ℕ). IsFront n c.in-Some.width c.args.signature.now) c.k.ensures c.in-Some.ensures.some in
    digit_plain k (product 1 k bit_mul g) (IsRing-from_modulus k g c.args.ring.now.ring.fits) c.args.ring.now.no_zero_divisors (x_of k g) (unit_powers k g c.args.ring.now.ring.fits) c.in-Some.width c.args.signature.now is c.requires.wide
    c.words.result.now c.words.ensures c.feeds.result.now (take c.in-Some.width c.feeds.result.now) c.feeds.ensures refl c.in-Ok.ensures.names c.in-Ok.net c.in-Ok.ensures.made

pub returns-in-Ok-clause-form : goal.returns-in-Ok-clause-form
returns-in-Ok-clause-form c =
    let k : ℕ = degree_of (ring_of c.args.ring.now) in
    let g : ℕ = modulus_of (ring_of c.args.ring.now) in
    let is : IsFront k c.in-Some.width c.args.signature.now = subst (λ (n : ℕ). IsFront n c.in-Some.width c.args.signature.now) c.k.ensures c.in-Some.ensures.some in
    form_from k (product 1 k bit_mul g) (IsRing-from_modulus k g c.args.ring.now.ring.fits) c.args.ring.now.no_zero_divisors (x_of k g) (unit_powers k g c.args.ring.now.ring.fits) c.in-Some.width c.args.signature.now is c.requires.wide
    c.words.result.now c.words.ensures c.feeds.result.now (take c.in-Some.width c.feeds.result.now) c.feeds.ensures refl c.in-Ok.ensures.names

pub returns-in-Err-clause-unfit : goal.returns-in-Err-clause-unfit
returns-in-Err-clause-unfit c = λ unfit form.
    let k : ℕ = degree_of (ring_of c.args.ring.now) in
    let g : ℕ = modulus_of (ring_of c.args.ring.now) in
    let is : IsFront k c.in-Some.width c.args.signature.now = subst (λ (n : ℕ). IsFront n c.in-Some.width c.args.signature.now) c.k.ensures c.in-Some.ensures.some in
    c.in-Err.ensures.unfit unfit
    (names_from k (product 1 k bit_mul g) (IsRing-from_modulus k g c.args.ring.now.ring.fits) c.args.ring.now.no_zero_divisors (x_of k g) (unit_powers k g c.args.ring.now.ring.fits) c.in-Some.width c.args.signature.now is c.requires.wide
    c.words.result.now c.words.ensures c.feeds.result.now (take c.in-Some.width c.feeds.result.now) c.feeds.ensures refl form)
