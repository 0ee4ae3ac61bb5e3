use Rattle.std.proofs.Common.{◌≡◌, ◌∙◌, Some, ap, sym, arith, get_or, length}
use Rattle.gf_field.specs.Ring2k.{modulus_of}
use Rattle.irreducible.specs.Proved.{ring_of}
use Rattle.make_nets.specs.Plan.{begun, each, with_chain}
use Rattle.mult_gen.specs.Chains.{added_bits, squarer_plan}
use Rattle.mult_gen.proofs.PlanLemmas.{each_next}
use Rattle.mult_gen.proofs.squarers.gates.Goals as goal

pub loop-l-preserved : goal.loop-l-preserved
loop-l-preserved c = (
  each_next (λ i. with_chain (Some (get_or c.args.z.now i 0)) (added_bits (length c.args.z.now) (modulus_of (ring_of c.args.ring.now)) c.args.a.now i)) c.loop-l.l (begun c.args.outer) c.loop-l.plan c.add_chain.new.plan
      (c.in_ok-add_chain.ensures.made ∙ ap (λ n. with_chain (Some (get_or c.args.z.now c.loop-l.l 0)) (added_bits n (modulus_of (ring_of c.args.ring.now)) c.args.a.now c.loop-l.l) c.loop-l.plan) (c.requires.first ∙ sym c.requires.product))
      c.loop-l.invariant.0,
  omega (arith, c.loop-l.invariant.1, c.in_ok-add_chain.ensures.next),
)

pub returns : goal.returns
returns c =
    let count : c.loop-l.l ≡ length c.args.z.now = omega arith in
    c.loop-l.invariant.0
    ∙ ap (λ k. each k (λ i. with_chain (Some (get_or c.args.z.now i 0)) (added_bits (length c.args.z.now) (modulus_of (ring_of c.args.ring.now)) c.args.a.now i)) (begun c.args.outer)) count
    ∙ ap (λ k. squarer_plan c.args.outer k (modulus_of (ring_of c.args.ring.now)) c.args.a.now c.args.z.now) c.requires.product
