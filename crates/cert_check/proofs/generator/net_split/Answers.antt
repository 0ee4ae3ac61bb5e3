use Rattle.std.proofs.Common.{◌∙◌, ap, ℕ, bit_xor}
use lib.Bits.{xor_zero_r}
use Rattle.poly_mixed.specs.Polynomial.{value}
use Rattle.cert_check.specs.Running.{bit_value}
use Rattle.cert_check.specs.private.Generators.{driver_value}
use Rattle.cert_check.proofs.generator.net_split.Goals as goal

pub returns : goal.returns
returns g c =
    let mul : ℕ → ℕ → ℕ = g.F.Ring.product c.args.field.now in
    record {
      terms = c.in_ok-add_driven.ensures.terms;
      is_form = tt;
      values = λ p at.
          xor_zero_r (value mul p c.add_driven.new.sum.terms)
          ∙ (c.in_ok-add_driven.ensures.values p at
          ∙ ap (λ v. bit_xor v (driver_value c.args.circuit.now c.args.n p)) (c.in_ok-near.ensures.values p at ∙ ap (λ r. bit_value (p.is_one r)) c.rank.ensures));
    }
