use Rattle.std.proofs.Common.{◌∙◌, ap, arith, refl, ℕ}
use Rattle.std.proofs.lemmas.Result.{IfOk-weaker}
use Rattle.gf_field.specs.Bit.{bit_mul}
use Rattle.gf_field.specs.Quotient.{product}
use Rattle.gf_field.specs.Ring2k.{degree_of, modulus_of}
use Rattle.irreducible.specs.Proved.{ring_of}
use Rattle.make_laws.specs.Indeterminate.{x_of}
use Rattle.mult_digit.specs.DigitPlan.{Sums}
use Rattle.mult_digit.proofs.MakerLemmas.{digit_is, first_low, input_is, output_is, sums_same}
use Rattle.mult_digit.proofs.maker.word_sums.Goals as goal

pub digit_nets-requires : goal.digit_nets-requires
digit_nets-requires c =
    let k : ℕ = degree_of (ring_of c.args.ring.now) in
    let g : ℕ = modulus_of (ring_of c.args.ring.now) in
    omega (arith, first_low k (product 1 k bit_mul g) (x_of k g) c.args.width c.args.words.now c.requires.words c.requires.wide c.args.ring.now.ring.fits.small c.requires.narrow c.args.first c.requires.first)

pub role_nets-requires : goal.role_nets-requires
role_nets-requires c =
    let k : ℕ = degree_of (ring_of c.args.ring.now) in
    let g : ℕ = modulus_of (ring_of c.args.ring.now) in
    omega (arith, first_low k (product 1 k bit_mul g) (x_of k g) c.args.width c.args.words.now c.requires.words c.requires.wide c.args.ring.now.ring.fits.small c.requires.narrow c.args.first c.requires.first, c.requires.first)

pub overflow_add-first : goal.overflow_add-first
overflow_add-first c =
    let k : ℕ = degree_of (ring_of c.args.ring.now) in
    let g : ℕ = modulus_of (ring_of c.args.ring.now) in
    omega (arith, first_low k (product 1 k bit_mul g) (x_of k g) c.args.width c.args.words.now c.requires.words c.requires.wide c.args.ring.now.ring.fits.small c.requires.narrow c.args.first c.requires.first)

pub digit_sums-requires : goal.digit_sums-requires
digit_sums-requires c =
    let k : ℕ = degree_of (ring_of c.args.ring.now) in
    let g : ℕ = modulus_of (ring_of c.args.ring.now) in
    record {
      x = c.indeterminate-x.ensures.element;
      first = first_low k (product 1 k bit_mul g) (x_of k g) c.args.width c.args.words.now c.requires.words c.requires.wide c.args.ring.now.ring.fits.small c.requires.narrow c.args.first c.requires.first;
      d_few = digit_is k (product 1 k bit_mul g) (x_of k g) c.args.width c.args.words.now c.requires.words c.requires.wide c.args.ring.now.ring.fits.small c.requires.narrow c.deref.result.now c.in_ok-d.d.items c.args.first c.deref.ensures.value c.in_ok-d.ensures;
      b_long = input_is k (product 1 k bit_mul g) (x_of k g) c.args.width c.args.words.now c.requires.words c.requires.wide c.args.ring.now.ring.fits.small c.requires.narrow c.deref-2.result.now c.in_ok-b.b.items c.deref-2.ensures.value c.in_ok-b.ensures;
      z_long = output_is k (product 1 k bit_mul g) (x_of k g) c.args.width c.args.words.now c.requires.words c.requires.wide c.args.ring.now.ring.fits.small c.requires.narrow c.args.z.now c.args.z.now refl c.requires.z;
    }

pub returns-clause-plan : goal.returns-clause-plan
returns-clause-plan c =
    let k : ℕ = degree_of (ring_of c.args.ring.now) in
    let g : ℕ = modulus_of (ring_of c.args.ring.now) in
    IfOk-weaker c.digit_sums.result _ _
    (λ pair is. is ∙ ap (λ (s : Sums). s.plan) (sums_same k (product 1 k bit_mul g) (x_of k g) c.args.width c.args.words.now c.requires.words c.requires.wide c.args.ring.now.ring.fits.small c.requires.narrow c.args.first c.indeterminate-x.result c.deref.result.now c.deref-2.result.now c.args.z.now c.requires.first c.indeterminate-x.ensures.is (c.deref.ensures.value ∙ c.in_ok-d.ensures) (c.deref-2.ensures.value ∙ c.in_ok-b.ensures) c.requires.z))
    c.digit_sums.ensures.plan

pub returns-clause-nets : goal.returns-clause-nets
returns-clause-nets c =
    let k : ℕ = degree_of (ring_of c.args.ring.now) in
    let g : ℕ = modulus_of (ring_of c.args.ring.now) in
    IfOk-weaker c.digit_sums.result _ _
    (λ pair is. is ∙ ap (λ (s : Sums). s.nets) (sums_same k (product 1 k bit_mul g) (x_of k g) c.args.width c.args.words.now c.requires.words c.requires.wide c.args.ring.now.ring.fits.small c.requires.narrow c.args.first c.indeterminate-x.result c.deref.result.now c.deref-2.result.now c.args.z.now c.requires.first c.indeterminate-x.ensures.is (c.deref.ensures.value ∙ c.in_ok-d.ensures) (c.deref-2.ensures.value ∙ c.in_ok-b.ensures) c.requires.z))
    c.digit_sums.ensures.nets
