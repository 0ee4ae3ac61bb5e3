use Rattle.word_subst.specs.Whole.{IsPart}
use Rattle.word_subst.proofs.ReadFromLemmas.{item_at}
use Rattle.word_subst.proofs.whole.are_with.Goals as goal

pub is_with-requires-clause-part : goal.is_with-requires-clause-part
is_with-requires-clause-part g c = (item_at c.args.parts.now c.loop-j.j c.index-parts-j.result (IsPart c.args._word (g.F.Ring.degree c.args.field.now)) c.loop-j-test.true c.index-parts-j.is c.requires.parts).element
