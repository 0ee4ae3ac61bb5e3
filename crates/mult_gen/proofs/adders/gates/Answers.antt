use Rattle.std.proofs.Common.{◌≡◌, ◌∙◌, Some, ap, arith, get_or, length}
use Rattle.make_nets.specs.Plan.{begun, each, with_xor}
use Rattle.mult_gen.proofs.PlanLemmas.{each_next}
use Rattle.mult_gen.proofs.adders.gates.Goals as goal

pub loop-i-preserved : goal.loop-i-preserved
loop-i-preserved c = each_next (λ i. with_xor (Some (get_or c.args.z.now i 0)) (get_or c.args.a.now i 0) (get_or c.args.b.now i 0)) c.loop-i.i (begun c.args.outer) c.loop-i.plan c.xor_into.new.self c.in_ok-xor_into.ensures c.loop-i.invariant

pub returns : goal.returns
returns c =
    let count : c.loop-i.i ≡ length c.args.z.now = omega arith in
    c.loop-i.invariant ∙ ap (λ k. each k (λ i. with_xor (Some (get_or c.args.z.now i 0)) (get_or c.args.a.now i 0) (get_or c.args.b.now i 0)) (begun c.args.outer)) count
