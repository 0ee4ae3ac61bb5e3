use Rattle.std.proofs.Common.{◌∙◌, ap₂}
use Rattle.std.proofs.lemmas.Result.{IfOk-weaker, on_ok_weaker}
use Rattle.gf_field.specs.Ring2k.{modulus_of}
use Rattle.irreducible.specs.Proved.{ring_of}
use Rattle.mult_composite.specs.Composite.{base_product}
use Rattle.mult_composite.proofs.products.coefficient_product.Goals as goal

pub returns-clause-made : goal.returns-clause-made
returns-clause-made c =
    on_ok_weaker c.base_product.result
    (λ made. made ∙ ap₂ (λ u v. (base_product c.args.n (modulus_of (ring_of c.args.base.now)) u v c.args.plan.now).plan) c.coefficient_nets-first.ensures.nets c.coefficient_nets-second.ensures.nets)
    c.base_product.ensures.made

pub returns-clause-nets : goal.returns-clause-nets
returns-clause-nets c =
    IfOk-weaker c.base_product.result _ _
    (λ nets is. is ∙ ap₂ (λ u v. (base_product c.args.n (modulus_of (ring_of c.args.base.now)) u v c.args.plan.now).nets) c.coefficient_nets-first.ensures.nets c.coefficient_nets-second.ensures.nets)
    c.base_product.ensures.nets
