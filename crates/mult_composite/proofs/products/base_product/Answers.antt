use Rattle.std.proofs.Common.{◌≡◌, ◌∙◌, ap, ap₂, arith, ℕ, List, None, length}
use Rattle.gf_field.specs.Ring2k.{modulus_of}
use Rattle.irreducible.specs.Proved.{ring_of}
use Rattle.make_nets.specs.Plan.{chain_net, with_chain}
use Rattle.make_nets.specs.Row.{Row, row_of}
use Rattle.mult_gen.specs.Chains.{added_products, products as bit_products}
use Rattle.mult_composite.specs.Composite.{base_product}
use Rattle.mult_composite.proofs.ListLemmas.{row_done, row_more}
use Rattle.mult_composite.proofs.products.base_product.Goals as goal

pub loop-l-init : goal.loop-l-init
loop-l-init c = (ap₂ row_of c.in_ok-products_of_bits.ensures.made c.new-nets.ensures.items, omega (arith, c.in_ok-products_of_bits.ensures.next))

pub products_for_bit-requires : goal.products_for_bit-requires
products_for_bit-requires c = record {
  degree = c.requires.degree;
  powers = c.requires.powers;
  long = c.requires.long;
  small = c.requires.low;
  bit = omega (arith, c.loop-l-test.true, c.requires.low);
  room = omega (arith, c.next-first.ensures, c.requires.room);
}

pub sum_of-requires : goal.sum_of-requires
sum_of-requires c = omega (arith, c.loop-l.invariant.1, c.loop-l-test.true, c.requires.low, c.requires.room, ap (λ (v : List ℕ). length v) c.as_slice.ensures.value, c.in_ok-list.ensures.few)

pub loop-l-preserved : goal.loop-l-preserved
loop-l-preserved c =
    let g : ℕ = modulus_of (ring_of c.args.base.now) in
    let list_is : c.as_slice.result.now ≡ added_products c.args.n g c.args.plan.now.next c.loop-l.l = c.as_slice.ensures.value ∙ c.in_ok-list.ensures.list ∙ ap (λ f. added_products c.args.n g f c.loop-l.l) c.next-first.ensures in (
      row_more (λ k. with_chain None (added_products c.args.n g c.args.plan.now.next k)) (λ k so_far. chain_net None (added_products c.args.n g c.args.plan.now.next k) so_far) c.loop-l.l (bit_products c.args.n c.args.a.now c.args.b.now c.args.plan.now) c.loop-l.plan c.sum_of.new.plan c.loop-l.nets.items c.push.new.self.items c.in_ok-net.net
          c.loop-l.invariant.0 (c.in_ok-net.ensures.made ∙ ap (λ v. with_chain None v c.loop-l.plan) list_is) (c.in_ok-net.ensures.net ∙ ap (λ v. chain_net None v c.loop-l.plan) list_is) c.in_ok-push.ensures.items,
      omega (arith, c.loop-l.invariant.1, c.in_ok-net.ensures.next, ap (λ (v : List ℕ). length v) c.as_slice.ensures.value, c.in_ok-list.ensures.few),
    )

pub returns : goal.returns
returns c =
    let g : ℕ = modulus_of (ring_of c.args.base.now) in
    let count : c.loop-l.l ≡ c.args.n = omega arith in
    let done : row_of c.loop-l.plan c.loop-l.nets.items ≡ base_product c.args.n g c.args.a.now c.args.b.now c.args.plan.now =
    row_done (λ k. with_chain None (added_products c.args.n g c.args.plan.now.next k)) (λ k so_far. chain_net None (added_products c.args.n g c.args.plan.now.next k) so_far) c.loop-l.l c.args.n (bit_products c.args.n c.args.a.now c.args.b.now c.args.plan.now) c.loop-l.plan c.loop-l.nets.items c.loop-l.invariant.0 count in
    record {
      made = ap (λ (row : Row). row.plan) done;
      nets = ap (λ (row : Row). row.nets) done;
      next = omega (arith, c.loop-l.invariant.1, count, c.requires.low);
    }
