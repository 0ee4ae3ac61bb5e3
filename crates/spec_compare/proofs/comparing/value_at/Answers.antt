use Rattle.std.proofs.Common.{◌∙◌, ap}
use Rattle.poly_mixed.specs.Polynomial.{Point, value}
use Rattle.spec_compare.proofs.StepLemmas.{same_point}
use Rattle.spec_compare.proofs.comparing.value_at.Goals as goal

pub returns : goal.returns
returns g c = c.value.ensures ∙ ap (λ (p : Point). value (g.F.Ring.product c.args.field.now) p c.args.poly.now.terms) (same_point c.bits_at-bits.result c.args.ones.now c.bits_at-bits.ensures)
