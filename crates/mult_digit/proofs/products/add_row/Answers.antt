use Rattle.std.proofs.Common.{None, ap, arith}
use Rattle.make_nets.specs.Plan.{Plan, with_and}
use Rattle.make_laws.specs.Held.{net_at}
use Rattle.mult_digit.proofs.ShapeLemmas.{gates_more}
use Rattle.mult_digit.proofs.products.add_row.Goals as goal

pub loop-j-preserved : goal.loop-j-preserved
loop-j-preserved c = (
  gates_more (λ j. with_and None c.args.d (net_at c.args.b.now j)) c.args.plan.now c.loop-j.plan c.and.new.self c.loop-j.j c.loop-j.invariant.0 c.in_ok-and.ensures.made,
  omega (arith, c.loop-j.invariant.1, ap (λ (p : Plan). p.next) c.in_ok-and.ensures.made),
)
