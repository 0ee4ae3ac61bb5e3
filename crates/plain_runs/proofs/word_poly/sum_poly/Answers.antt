use Rattle.gf_basis.specs.BasisParts.{elements_of}
use Rattle.stage_model.proofs.WordPolyLemmas.{sum_next, taken_item}
use Rattle.plain_runs.proofs.word_poly.sum_poly.Goals as goal

pub loop-term-preserved : goal.loop-term-preserved
loop-term-preserved g c =
    let item = taken_item c.args.terms.now c.args.count c.loop-term.term-index c.term-item.result c.loop-term-test.true c.term-item.is in
    sum_next (g.F.Ring.degree c.args.field.now) (g.F.Ring.product c.args.field.now) (elements_of c.args.basis.now) c.args.word c.args.terms.now c.loop-term.term-index c.term-item.result
    c.loop-term.sum.terms c.in_ok-part.part.terms _ item.0 item.1 c.loop-term.invariant c.in_ok-part.ensures c.in_ok-add_into.ensures.reduced c.in_ok-add_into.ensures.values
