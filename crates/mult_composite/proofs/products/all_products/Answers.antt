use Rattle.std.proofs.Common.{◌≡◌, ◌*◌, ◌∙◌, ◌++◌, ap, arith}
use Rattle.gf_field.specs.Ring2k.{modulus_of}
use Rattle.irreducible.specs.Proved.{ring_of}
use Rattle.make_nets.specs.Row.{Row, row_of}
use Rattle.mult_composite.specs.Composite.{all_products, coefficient_product}
use Rattle.mult_composite.proofs.ListLemmas.{pairs_done, pairs_more}
use Rattle.mult_composite.proofs.products.all_products.Goals as goal

pub group_of-i-requires-clause-place : goal.group_of-i-requires-clause-place
group_of-i-requires-clause-place c = omega (arith, c.loop-q-test.true, c.square-count.ensures.is)

pub coefficient_product-requires : goal.coefficient_product-requires
coefficient_product-requires c = record {
  degree = c.requires.degree;
  powers = c.requires.powers;
  long = c.requires.long;
  low = c.requires.low;
  small = c.requires.small;
  first = c.group_of-i.ensures.below;
  second = c.bit_of-j.ensures.below;
  long_first = c.requires.long_first;
  long_second = c.requires.long_second;
  room = omega (arith, c.loop-q.invariant.1, c.loop-q-test.true, c.square-count.ensures.most, c.requires.room);
}

pub loop-q-preserved : goal.loop-q-preserved
loop-q-preserved c = (
  pairs_more (coefficient_product c.args.n (modulus_of (ring_of c.args.base.now)) c.args.a.now c.args.b.now) c.args.m c.loop-q.q c.group_of-i.result c.bit_of-j.result c.args.plan.now c.loop-q.plan c.coefficient_product.new.plan c.loop-q.nets.items c.in_ok-more.more.items c.extend_from_slice.new.self.items
      c.loop-q.invariant.0 c.group_of-i.ensures.is c.bit_of-j.ensures.is c.in_ok-more.ensures.made c.in_ok-more.ensures.nets (c.in_ok-extend_from_slice.ensures.items ∙ ap (λ v. c.loop-q.nets.items ++ v) c.as_slice.ensures.value),
  omega (arith, c.loop-q.invariant.1, c.in_ok-more.ensures.next),
)

pub returns : goal.returns
returns c =
    let count : c.loop-q.q ≡ c.args.m * c.args.m = omega (arith, c.square-count.ensures.is) in
    let done : row_of c.loop-q.plan c.loop-q.nets.items ≡ all_products c.args.n (modulus_of (ring_of c.args.base.now)) c.args.m c.args.a.now c.args.b.now c.args.plan.now = pairs_done (coefficient_product c.args.n (modulus_of (ring_of c.args.base.now)) c.args.a.now c.args.b.now) c.args.m c.loop-q.q c.args.plan.now c.loop-q.plan c.loop-q.nets.items c.loop-q.invariant.0 count in
    record {
      made = ap (λ (row : Row). row.plan) done;
      nets = ap (λ (row : Row). row.nets) done;
      next = omega (arith, c.loop-q.invariant.1, count, c.square-count.ensures.is, c.square-count.ensures.most);
    }
