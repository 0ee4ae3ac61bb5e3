use Rattle.std.proofs.Common.{◌≡◌, ◌∙◌, ◌+◌, ◌*◌, ap, arith, get_or, length}
use Rattle.make_nets.specs.Plan.{each}
use Rattle.mult_gen.specs.Chains.{product_row}
use Rattle.mult_gen.proofs.PlanLemmas.{each_next}
use Rattle.mult_gen.proofs.products.bit_products.Goals as goal

pub loop-x-preserved : goal.loop-x-preserved
loop-x-preserved c =
    let more : (c.loop-x.x-index + 1) * length c.args.b.now ≡ c.loop-x.x-index * length c.args.b.now + length c.args.b.now = omega arith in (
      each_next (λ i. product_row (length c.args.b.now) (get_or c.args.a.now i 0) c.args.b.now) c.loop-x.x-index c.args.plan.now c.loop-x.plan c.product_row.new.plan c.in_ok-product_row.ensures.made c.loop-x.invariant.0,
      omega (arith, more, c.loop-x.invariant.1, c.in_ok-product_row.ensures.next),
    )

pub returns : goal.returns
returns c =
    let count : c.loop-x.x-index ≡ length c.args.b.now = omega (arith, c.requires.same) in
    record {
      made = c.loop-x.invariant.0 ∙ ap (λ k. each k (λ i. product_row (length c.args.b.now) (get_or c.args.a.now i 0) c.args.b.now) c.args.plan.now) count;
      next = c.loop-x.invariant.1 ∙ ap (λ k. c.args.plan.now.next + k * length c.args.b.now) count;
    }
