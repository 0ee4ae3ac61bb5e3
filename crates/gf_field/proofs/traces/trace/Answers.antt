use Rattle.std.proofs.Common.{◌≡◌, ◌∙◌, refl, arith, pow_pos, ap}
use Rattle.gf_field.specs.Trace.{frobenius, trace}
use Rattle.gf_field.specs.laws.TraceLaws.{frobenius_next, trace_next, trace_at_most_one}
use Rattle.gf_field.proofs.traces.trace.Goals as goal

pub loop-init : goal.loop-init
unfolding frobenius trace
loop-init g c = record { element = c.requires; sum_element = pow_pos _; squares = refl; total = refl }

pub loop-preserved : goal.loop-preserved
loop-preserved g c = record {
  element = c.square-square.ensures.element;
  sum_element = c.add-sum.ensures.element;
  squares = frobenius_next _ c.args.a c.loop.counter c.loop.square _ c.loop.invariant.squares c.square-square.ensures.product;
  total = trace_next _ c.args.a c.loop.counter c.loop.square c.loop.sum _ c.loop.invariant.squares c.loop.invariant.total c.add-sum.ensures.sum;
}

pub returns-clause-bit : goal.returns-clause-bit
returns-clause-bit g c =
    let whole : c.loop.counter ≡ c.k-end.result = omega (arith, c.loop.auto.counter-end) in
    trace_at_most_one _ _ (g.met.F.Ring.laws c.args.field.now) (g.met.F.Field.no_zero_divisors c.args.field.now) c.args.a c.loop.sum c.requires
    (c.loop.invariant.total ∙ ap (λ n. trace (g.F.Ring.product c.args.field.now) n c.args.a) (whole ∙ c.k-end.ensures))
