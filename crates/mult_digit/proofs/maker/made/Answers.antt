use Rattle.std.proofs.Common.{◌∙◌, arith, ℕ, length, []}
use Rattle.std.proofs.lemmas.Result.{IfOk-weaker}
use Rattle.lists.specs.laws.ListLaws.{length_map as map_long}
use Rattle.gf_field.specs.Bit.{bit_mul}
use Rattle.gf_field.specs.Quotient.{product}
use Rattle.gf_field.specs.Ring2k.{degree_of, modulus_of}
use Rattle.irreducible.specs.Proved.{ring_of}
use Rattle.net_words.specs.declared.feed.FeedText.{FeedText}
use Rattle.make_laws.specs.Indeterminate.{x_of}
use Rattle.mult_digit.specs.DigitForm.{fed_names}
use Rattle.mult_digit.proofs.MakerLemmas.{made_at, output_is, plan_for_at, sums_are, words_few}
use Rattle.mult_digit.proofs.maker.made.Goals as goal

pub overflow_cast-width : goal.overflow_cast-width
overflow_cast-width c = omega (arith, c.requires.narrow, c.args.ring.now.ring.fits.small)

pub role_nets-requires : goal.role_nets-requires
role_nets-requires c =
    let k : ℕ = degree_of (ring_of c.args.ring.now) in
    let g : ℕ = modulus_of (ring_of c.args.ring.now) in
    omega (arith, words_few k (product 1 k bit_mul g) (x_of k g) (length c.args.front.now) c.args.words.now c.requires.words c.requires.wide c.args.ring.now.ring.fits.small c.requires.narrow)

pub count_of-requires : goal.count_of-requires
count_of-requires c =
    let k : ℕ = degree_of (ring_of c.args.ring.now) in
    let g : ℕ = modulus_of (ring_of c.args.ring.now) in
    omega (arith, words_few k (product 1 k bit_mul g) (x_of k g) (length c.args.front.now) c.args.words.now c.requires.words c.requires.wide c.args.ring.now.ring.fits.small c.requires.narrow)

pub word_sums-requires : goal.word_sums-requires
word_sums-requires c = record { words = c.requires.words; wide = c.requires.wide; narrow = c.requires.narrow; first = c.count_of.ensures; z = c.as_slice-z.ensures.value ∙ c.in_ok-outputs.ensures }

pub latches-requires : goal.latches-requires
latches-requires c =
    let k : ℕ = degree_of (ring_of c.args.ring.now) in
    let g : ℕ = modulus_of (ring_of c.args.ring.now) in
    sums_are k (product 1 k bit_mul g) (x_of k g) (length c.args.front.now) c.args.words.now c.requires.words c.requires.wide c.args.ring.now.ring.fits.small c.requires.narrow c.as_slice.result.now c.in_ok-plan.sums.items c.as_slice-z.result.now c.as_slice.ensures.value c.in_ok-plan.ensures.nets
    (output_is k (product 1 k bit_mul g) (x_of k g) (length c.args.front.now) c.args.words.now c.requires.words c.requires.wide c.args.ring.now.ring.fits.small c.requires.narrow c.as_slice-z.result.now c.in_ok-outputs.outputs.items c.as_slice-z.ensures.value c.in_ok-outputs.ensures)

pub make-requires : goal.make-requires
make-requires c =
    let k : ℕ = degree_of (ring_of c.args.ring.now) in
    let g : ℕ = modulus_of (ring_of c.args.ring.now) in
    record {
      maker = c.requires.maker;
      names = c.requires.names;
      fits = (
        [],
        plan_for_at k (product 1 k bit_mul g) (x_of k g) (length c.args.front.now) c.args.words.now c.requires.words c.requires.wide c.args.ring.now.ring.fits.small c.requires.narrow c.as_slice.result.now c.as_slice-z.result.now c.in_ok-plan.plan c.as_slice-2.result.now
            (c.as_slice-z.ensures.value ∙ c.in_ok-outputs.ensures) c.in_ok-plan.ensures.plan (c.as_slice.ensures.value ∙ c.in_ok-plan.ensures.nets) (c.as_slice-2.ensures.value ∙ c.in_ok-list.ensures) (fed_names c.args.front.now) (map_long (λ (f : FeedText). f.net) c.args.front.now),
      );
    }

pub returns : goal.returns
returns c =
    let k : ℕ = degree_of (ring_of c.args.ring.now) in
    let g : ℕ = modulus_of (ring_of c.args.ring.now) in
    IfOk-weaker c.make.result _ _ (λ net is. is ∙ made_at k (product 1 k bit_mul g) (x_of k g) (length c.args.front.now) c.args.words.now c.requires.words c.requires.wide c.args.ring.now.ring.fits.small c.requires.narrow c.as_slice.result.now c.as_slice-z.result.now c.in_ok-plan.plan c.as_slice-2.result.now
    (c.as_slice-z.ensures.value ∙ c.in_ok-outputs.ensures) c.in_ok-plan.ensures.plan (c.as_slice.ensures.value ∙ c.in_ok-plan.ensures.nets) (c.as_slice-2.ensures.value ∙ c.in_ok-list.ensures) (fed_names c.args.front.now) (map_long (λ (f : FeedText). f.net) c.args.front.now)) c.make.ensures
