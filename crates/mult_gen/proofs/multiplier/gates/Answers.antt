use Rattle.std.proofs.Common.{◌≡◌, ◌∙◌, Some, ap, ap₂, sym, arith, get_or, length}
use Rattle.lists.specs.laws.NumberLaws.{square_few}
use Rattle.gf_field.specs.Ring2k.{modulus_of}
use Rattle.irreducible.specs.Proved.{ring_of}
use Rattle.make_nets.specs.Plan.{Plan, begun, each, with_chain}
use Rattle.mult_gen.specs.Chains.{added_products, mastrovito_plan, products}
use Rattle.mult_gen.proofs.PlanLemmas.{each_next}
use Rattle.mult_gen.proofs.multiplier.gates.Goals as goal

pub loop-l-init : goal.loop-l-init
loop-l-init c = (
  c.in_ok-bit_products.ensures.made ∙ ap₂ (λ k plan. products k c.args.a.now c.args.b.now plan) (c.requires.second ∙ sym c.requires.product) c.new-plan.ensures,
  omega (arith, c.in_ok-bit_products.ensures.next, ap (λ (p : Plan). p.next) c.new-plan.ensures, square_few (length c.args.b.now) (omega (arith, c.requires.second, c.requires.small))),
)

pub loop-l-preserved : goal.loop-l-preserved
loop-l-preserved c = (
  each_next (λ i. with_chain (Some (get_or c.args.z.now i 0)) (added_products (length c.args.z.now) (modulus_of (ring_of c.args.ring.now)) c.args.outer i)) c.loop-l.l (products (length c.args.z.now) c.args.a.now c.args.b.now (begun c.args.outer)) c.loop-l.plan c.add_chain.new.plan c.in_ok-add_chain.ensures.made c.loop-l.invariant.0,
  omega (arith, c.loop-l.invariant.1, c.in_ok-add_chain.ensures.next),
)

pub returns : goal.returns
returns c =
    let count : c.loop-l.l ≡ length c.args.z.now = omega arith in
    c.loop-l.invariant.0
    ∙ ap (λ k. each k (λ i. with_chain (Some (get_or c.args.z.now i 0)) (added_products (length c.args.z.now) (modulus_of (ring_of c.args.ring.now)) c.args.outer i)) (products (length c.args.z.now) c.args.a.now c.args.b.now (begun c.args.outer))) count
    ∙ ap (λ k. mastrovito_plan c.args.outer k (modulus_of (ring_of c.args.ring.now)) c.args.a.now c.args.b.now c.args.z.now) c.requires.product
