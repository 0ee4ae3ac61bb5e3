use Rattle.std.proofs.Common.{◌∙◌, ap, bit_xor}
use Rattle.std.proofs.lemmas.Result.{on_ok_weaker}
use Rattle.poly_mixed.specs.Polynomial.{value}
use Rattle.cert_check.proofs.running.add_bit.Goals as goal

pub returns-clause-values : goal.returns-clause-values
returns-clause-values g c =
    on_ok_weaker c.add_into.result (λ e p at. e p at ∙ ap (bit_xor (value (g.F.Ring.product c.args.field.now) p c.args.sum.now.terms)) (c.in_ok-part.ensures.values p at)) c.add_into.ensures.values
