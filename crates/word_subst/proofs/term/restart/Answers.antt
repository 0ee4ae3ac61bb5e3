use Rattle.gf_basis.specs.BasisParts.{elements_of}
use Rattle.word_subst.proofs.term.restart.Goals as goal

pub returns-clause-products : goal.returns-clause-products
returns-clause-products g c = c.in_ok-products.ensures.products (elements_of c.args._basis.now)
