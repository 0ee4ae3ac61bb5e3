use Rattle.std.proofs.Common.{refl}
use Rattle.word_subst.proofs.ReadFromLemmas.{mapped_push}
use Rattle.word_subst.proofs.at_once.all.Goals as goal

pub loop-term-preserved : goal.loop-term-preserved
loop-term-preserved c = mapped_push c.loop-term.list.items c.push.new.self.items c.args.terms.now (λ t. t.now) c.loop-term.term-index _ c.term-item.result c.in_ok-push.ensures.items refl c.term-item.is c.loop-term-test.true c.loop-term.invariant
