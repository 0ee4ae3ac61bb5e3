use Rattle.std.proofs.lemmas.Result.{IfOk-weaker}
use Rattle.gf_field.specs.Ring2k.{modulus_of}
use Rattle.irreducible.specs.Proved.{ring_of}
use Rattle.mult_composite.proofs.ListLemmas.{bit_few}
use Rattle.mult_composite.proofs.products.products_for_bit.Goals as goal

pub returns-clause-few : goal.returns-clause-few
returns-clause-few c = IfOk-weaker c.added_products.result _ _ (λ list is. bit_few c.args.n (modulus_of (ring_of c.args.base.now)) c.args.first c.args.l list.items c.requires.small is) c.added_products.ensures
