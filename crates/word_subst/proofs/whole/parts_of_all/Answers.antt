use Rattle.poly_mixed.specs.Polynomial.{IsTerm}
use Rattle.word_subst.proofs.MultipleLemmas.{all_take}
use Rattle.word_subst.proofs.whole.parts_of_all.Goals as goal

pub parts-requires-clause-terms : goal.parts-requires-clause-terms
parts-requires-clause-terms g c = all_take (IsTerm (g.F.Ring.degree c.args.field.now)) _ c.args.terms.now c.requires.terms
