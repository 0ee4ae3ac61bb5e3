use Rattle.std.proofs.Common.{arith}
use Rattle.poly_mixed.specs.Monomial.{has_bit}
use Rattle.word_subst.proofs.KeptLemmas.{kept_more, kept_all}
use Rattle.word_subst.proofs.at_once.with_bit.Goals as goal

pub loop-term-preserved : goal.loop-term-preserved
loop-term-preserved c = kept_more (λ t. has_bit c.args.rank t.now.0) c.args.terms.now c.loop-term.list.items c.add_taken.new.list.items c.loop-term.term-index c.term-item.result c.has.result (omega (arith, c.loop-term-test.true)) c.term-item.is c.has.ensures c.in_ok-add_taken.ensures c.loop-term.invariant

pub returns : goal.returns
returns c = kept_all (λ t. has_bit c.args.rank t.now.0) c.args.terms.now c.loop-term.list.items c.loop-term.term-index (omega (arith, c.loop-term-test.false)) c.loop-term.invariant
