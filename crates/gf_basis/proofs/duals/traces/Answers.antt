use Rattle.std.proofs.Common.{◌≡◌, suc, ◌-◌, ◌∙◌, sym, ap, arith, drop, refl, get_or}
use Rattle.gf_field.specs.laws.TraceLaws.{trace_at_most_one}
use Rattle.gf_field.specs.Trace.{trace}
use Rattle.gf_basis.specs.private.TraceWord.{trace_word}
use Rattle.gf_basis.proofs.TraceWordLaws.{trace_word_below}
use Rattle.gf_basis.proofs.CodeLaws.{traces_step}
use Rattle.gf_basis.proofs.duals.traces.Goals as goal

pub loop-i-preserved : goal.loop-i-preserved
loop-i-preserved g c =
    let same : suc (c.loop-i.i - 1) ≡ c.loop-i.i = omega arith in
    let law = g.met.F.Ring.laws c.args.field.now in let field = g.met.F.Field.no_zero_divisors c.args.field.now in
    let k = g.F.Ring.degree c.args.field.now in
    let e = get_or c.args.elements.now (c.loop-i.i - 1) 0 in
    let is : c.parity.result ≡ trace (g.F.Ring.product c.args.field.now) k (g.F.Ring.product c.args.field.now e c.args.x) =
    c.parity.ensures.value
    ∙ c.requires.mask c.by.result c.by.ensures.element
    ∙ ap (trace (g.F.Ring.product c.args.field.now) k) (c.by.ensures.product c.args.x c.requires.element c.times-table.ensures.table ∙ law.comm c.args.x e) in
    traces_step _ _ (g.met.F.Ring.laws c.args.field.now) (g.met.F.Field.no_zero_divisors c.args.field.now) c.args.elements.now c.args.x (c.loop-i.i - 1) c.loop-i.word c.parity.result c.requires.few (omega arith)
    (c.loop-i.invariant ∙ ap (λ i. trace_word (g.F.Ring.product c.args.field.now) (g.F.Ring.degree c.args.field.now) (drop i c.args.elements.now) c.args.x) (sym same))
    is (rw (is) (trace_at_most_one _ _ law field (g.F.Ring.product c.args.field.now e c.args.x) _ (law.closed e c.args.x) refl))

pub returns-clause-short : goal.returns-clause-short
returns-clause-short g c =
    let done : c.loop-i.i ≡ 0 = omega arith in
    rw (c.loop-i.invariant, done) (trace_word_below _ _ (g.met.F.Ring.laws c.args.field.now) (g.met.F.Field.no_zero_divisors c.args.field.now) c.args.elements.now c.args.x)
