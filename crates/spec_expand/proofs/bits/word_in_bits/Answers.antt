use Rattle.std.proofs.Common.{ap, ℕ, ◌+◌, ◌*◌, arith}
use Rattle.gf_basis.specs.BasisParts.{elements_of}
use Rattle.spec_expand.proofs.BitLemmas.{first_sum, next_sum, last_sum}
use Rattle.spec_expand.proofs.bits.word_in_bits.Goals as goal

pub loop-i-init : goal.loop-i-init
loop-i-init g c =
    first_sum (g.F.Ring.degree c.args.field.now) (g.F.Ring.product c.args.field.now) (elements_of c.args.basis.now) c.requires.over.elements.size c.args.word _ c.zero-sum.ensures

pub add_into-requires-clause-over : goal.add_into-requires-clause-over
add_into-requires-clause-over g c = c.loop-i.invariant.reduced

pub loop-i-preserved : goal.loop-i-preserved
loop-i-preserved g c =
    next_sum (g.F.Ring.degree c.args.field.now) (g.F.Ring.product c.args.field.now) (elements_of c.args.basis.now) c.requires.over.elements.size c.args.word c.loop-i.i _ _ _ _ _
    (omega (arith, c.loop-i-test.true, c.k-k.ensures)) c.element.ensures (ap (λ n. n * c.args.word + c.loop-i.i) c.k-k.ensures)
    c.loop-i.invariant c.in_ok-part.ensures c.in_ok-add_into.ensures.reduced c.in_ok-add_into.ensures.values

pub returns : goal.returns
returns g c =
    last_sum (g.F.Ring.degree c.args.field.now) (g.F.Ring.product c.args.field.now) (elements_of c.args.basis.now) c.requires.over.elements.size c.args.word c.loop-i.i _
    (omega (arith, c.loop-i-test.false, c.loop-i.auto.i-end, c.k-k.ensures)) c.loop-i.invariant
