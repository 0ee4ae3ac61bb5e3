use Rattle.std.proofs.Common.{◌∙◌, ap, sym, subst, ℕ, List, length, arith}
use Rattle.gf_field.specs.Ring2k.{degree_of, modulus_of}
use Rattle.irreducible.specs.Proved.{ring_of}
use Rattle.make_nets.specs.Plan.{Plan}
use Rattle.mult_gen.specs.Powers.{ArePowers}
use Rattle.mult_composite.proofs.ListLemmas.{all_long, plan_done}
use Rattle.mult_composite.proofs.multiplier.gates.Goals as goal

pub all_products-requires : goal.all_products-requires
all_products-requires c =
    let P : List ℕ → Type 0 = λ powers. ArePowers (degree_of (ring_of c.args.base.now)) (modulus_of (ring_of c.args.base.now)) powers in
    record {
      degree = c.requires.degree;
      powers = subst P (sym c.deref.ensures.value) c.in_ok-x_powers.ensures.each;
      long = ap length c.deref.ensures.value ∙ c.in_ok-x_powers.ensures.long;
      some = c.requires.some;
      one = omega (arith, c.requires.two);
      low = c.requires.low;
      few = c.requires.few;
      small = c.requires.small;
      long_first = c.requires.first;
      long_second = c.requires.second;
      room = omega (arith, ap (λ (p : Plan). p.next) c.new-plan.ensures, c.requires.room);
    }

pub pair_sums-requires : goal.pair_sums-requires
pair_sums-requires c = record {
  some = c.requires.some;
  one = omega (arith, c.requires.two);
  low = c.requires.low;
  few = c.requires.few;
  long = ap length (c.as_slice-product_nets.ensures.value ∙ c.in_ok-products.ensures.nets) ∙ all_long c.args.n (modulus_of (ring_of c.args.base.now)) c.args.m c.args.a.now c.args.b.now c.new-plan.result;
  room = omega (arith, ap (λ (p : Plan). p.next) c.new-plan.ensures, c.in_ok-products.ensures.next, c.requires.room);
}

pub reduced_sums-requires : goal.reduced_sums-requires
reduced_sums-requires c =
    let P : List ℕ → Type 0 = λ powers. ArePowers (degree_of (ring_of c.args.base.now)) (modulus_of (ring_of c.args.base.now)) powers in
    record {
      degree = c.requires.degree;
      some = c.requires.some;
      two = c.requires.two;
      low = c.requires.low;
      few = c.requires.few;
      small = c.requires.small;
      x_powers = subst P (sym c.deref-2.ensures.value) c.in_ok-x_powers.ensures.each;
      x_long = ap length c.deref-2.ensures.value ∙ c.in_ok-x_powers.ensures.long;
      powers = c.requires.powers;
      targets = c.requires.targets;
      count = c.requires.count;
      long = ap length c.as_slice-sum_nets.ensures.value ∙ c.in_ok-sums.ensures.count;
      room = omega (arith, ap (λ (p : Plan). p.next) c.new-plan.ensures, c.in_ok-products.ensures.next, c.in_ok-sums.ensures.next, c.requires.room);
    }

pub returns : goal.returns
returns c = λ t high.
    plan_done c.args.outer c.args.n (modulus_of (ring_of c.args.base.now)) c.args.m t c.args.a.now c.args.b.now c.args.z.now c.new-plan.result c.all_products.new.plan c.pair_sums.new.plan c.reduced_sums.new.plan c.as_slice-product_nets.result.now c.as_slice-sum_nets.result.now
    c.new-plan.ensures c.in_ok-products.ensures.made (c.as_slice-product_nets.ensures.value ∙ c.in_ok-products.ensures.nets) c.in_ok-sums.ensures.made (c.as_slice-sum_nets.ensures.value ∙ c.in_ok-sums.ensures.nets) (c.in_ok-reduced_sums.ensures t high)
