use Rattle.std.proofs.Common.{◌∙◌, ap, sym, subst, ℕ, bit_xor}
use lib.Bits.{xor_zero_r}
use Rattle.std.proofs.lemmas.Result.{IfOk-weaker}
use Rattle.poly_mixed.specs.Polynomial.{Terms, value}
use Rattle.cert_check.specs.Certificate.{begun}
use Rattle.cert_check.specs.Running.{output_value}
use Rattle.cert_check.specs.Verdict.{IsRunningSum}
use Rattle.cert_check.proofs.running.first_sum.Goals as goal

pub returns : goal.returns
returns g c =
    let k : ℕ = g.F.Ring.degree c.args.field.now in
    let mul : ℕ → ℕ → ℕ = g.F.Ring.product c.args.field.now in
    let claim : Terms = c.args.claim.now.terms in
    let P : Terms → Type 0 = IsRunningSum k mul c.args.circuit.now c.args.bases.now (begun claim) in
    let sum : P c.add_into.new.self.terms = record {
      reduced = c.in_ok-add_into.ensures.reduced;
      values = λ p at.
          c.in_ok-add_into.ensures.values p at
          ∙ (ap (λ v. bit_xor v (value mul p claim)) (c.in_ok-sum.ensures.values p at)
          ∙ sym (xor_zero_r (bit_xor (output_value k mul c.args.circuit.now c.args.bases.now p) (value mul p claim))));
    } in
    IfOk-weaker c.of.result _ _ (λ map same. subst P (sym same) sum) c.of.ensures
