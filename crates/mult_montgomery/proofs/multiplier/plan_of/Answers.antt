use Rattle.std.proofs.Common.{◌≡◌, ◌∙◌, ap, sym, arith, ℕ, length}
use Rattle.std.proofs.lemmas.Result.{IfOk-weaker}
use Rattle.gf_field.specs.Ring2k.{degree_of, modulus_of}
use Rattle.irreducible.specs.Proved.{ring_of}
use Rattle.mult_gen.specs.Form.{inputs_in, outer_of, outputs_in}
use Rattle.mult_montgomery.proofs.RoomLemmas.{plan_over}
use Rattle.mult_montgomery.proofs.multiplier.plan_of.Goals as goal

pub split_at-requires : goal.split_at-requires
split_at-requires c = omega (arith, ap (λ xs. length xs) c.as_slice.ensures.value, c.in_ok-inputs.ensures.long)

pub gates-requires : goal.gates-requires
gates-requires c =
    let long_b : length c.split_at.result.1.now ≡ c.k-k.result = omega (arith, c.split_at.ensures.back_len, ap (λ xs. length xs) c.as_slice.ensures.value, c.in_ok-inputs.ensures.long) in
    record {
      some = omega (arith, long_b, c.k-k.ensures, c.requires.some);
      small = omega (arith, long_b, c.k-k.ensures, c.requires.small);
      first = c.split_at.ensures.front_len ∙ sym long_b;
      product = ap (λ xs. length xs) c.as_slice-2.ensures.value ∙ c.in_ok-outputs.ensures.long ∙ sym long_b;
      room = c.outer-first.ensures.few;
    }

pub returns : goal.returns
returns c =
    let k : ℕ = degree_of (ring_of c.args.ring.now) in
    let g : ℕ = modulus_of (ring_of c.args.ring.now) in
    let words = c.args.signature.now.words in
    let long_b : length c.split_at.result.1.now ≡ c.k-k.result = omega (arith, c.split_at.ensures.back_len, ap (λ xs. length xs) c.as_slice.ensures.value, c.in_ok-inputs.ensures.long) in
    IfOk-weaker c.gates.result _ _
    (λ plan is. is ∙ plan_over k c.k-k.result (length c.split_at.result.1.now) g c.modulus.result c.outer-first.result (outer_of words) c.split_at.result.0.now c.split_at.result.1.now c.as_slice-2.result.now c.as_slice.result.now (inputs_in words) (outputs_in words)
    (long_b ∙ c.k-k.ensures) (c.modulus.ensures ∙ ap (λ ring. modulus_of ring) c.ring.ensures) c.outer-first.ensures.count c.k-k.ensures c.split_at.ensures.front c.split_at.ensures.back (c.as_slice.ensures.value ∙ c.in_ok-inputs.ensures.nets) (c.as_slice-2.ensures.value ∙ c.in_ok-outputs.ensures.nets))
    c.gates.ensures
