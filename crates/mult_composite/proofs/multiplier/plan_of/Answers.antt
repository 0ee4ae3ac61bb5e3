use Rattle.std.proofs.Common.{◌∙◌, ap, sym, arith, length, mul_comm}
use Rattle.std.proofs.lemmas.Result.{IfOk-weaker}
use Rattle.gf_field.specs.Ring2k.{degree_of, modulus_of}
use Rattle.gf_tower.specs.Tower.{tower_polynomial}
use Rattle.gf_tower.specs.TowerParts.{base_of, coefficients_of}
use Rattle.irreducible.specs.Proved.{ring_of}
use Rattle.mult_gen.specs.Form.{inputs_in, outer_of, outputs_in}
use Rattle.mult_composite.proofs.ListLemmas.{plan_over}
use Rattle.mult_composite.proofs.multiplier.plan_of.Goals as goal

pub split_at-requires : goal.split_at-requires
split_at-requires c = omega (arith, ap (λ xs. length xs) c.as_slice.ensures.value, c.in_ok-inputs.ensures.long)

pub high_powers-requires : goal.high_powers-requires
high_powers-requires c = record { degree = c.requires.degree; size = c.requires.size; some = c.requires.some; low = c.requires.low; two = c.requires.two; few = c.requires.few }

pub gates-requires : goal.gates-requires
gates-requires c = record {
  degree = c.requires.degree ∙ sym (ap (λ base. degree_of (ring_of base)) c.base.ensures);
  some = c.requires.some;
  two = c.requires.two;
  low = c.requires.low;
  few = c.requires.few;
  small = c.requires.small;
  powers = ap (λ xs. length xs) c.as_slice-power_list.ensures.value ∙ c.in_ok-powers.ensures.long;
  first = c.split_at.ensures.front_len;
  second = omega (arith, c.split_at.ensures.back_len, ap (λ xs. length xs) c.as_slice.ensures.value, c.in_ok-inputs.ensures.long);
  targets = ap (λ xs. length xs) c.as_slice-z.ensures.value ∙ c.in_ok-outputs.ensures.long ∙ mul_comm c.args.n c.args.m;
  count = omega (arith, ap (λ xs. length xs) c.as_slice-z.ensures.value, c.in_ok-outputs.ensures.long, c.requires.small);
  room = c.outer-first.ensures.few;
}

pub returns : goal.returns
returns c =
    let tower = c.args.tower.now in
    IfOk-weaker c.gates.result _ _
    (λ plan by. plan_over c.args.n c.args.m (tower_polynomial c.args.n (coefficients_of tower)) (modulus_of (ring_of (base_of tower))) (modulus_of (ring_of c.base.result.now)) c.outer-first.result (outer_of c.args.signature.now.words) c.as_slice-power_list.result.now c.split_at.result.0.now c.split_at.result.1.now c.as_slice-z.result.now c.as_slice.result.now (inputs_in c.args.signature.now.words) (outputs_in c.args.signature.now.words) plan
    by (ap (λ base. modulus_of (ring_of base)) c.base.ensures) (c.as_slice-power_list.ensures.value ∙ c.in_ok-powers.ensures.powers) c.outer-first.ensures.count c.split_at.ensures.front c.split_at.ensures.back (c.as_slice.ensures.value ∙ c.in_ok-inputs.ensures.nets) (c.as_slice-z.ensures.value ∙ c.in_ok-outputs.ensures.nets))
    c.gates.ensures
