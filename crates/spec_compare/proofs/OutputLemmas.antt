-- The comparison of two circuits' outputs, out of the verdict on their polynomials.
use Rattle.std.proofs.Common.{◌≡◌, ◌∙◌, ap, sym, subst, ℕ, ◌*◌, List, length, arith}
use Rattle.poly_mixed.specs.Polynomial.{Terms, IsReduced, value}
use Rattle.circuit_model.specs.Alike.{AreAlike}
use Rattle.circuit_model.specs.Circuit.{Circuit}
use Rattle.circuit_model.specs.Differing.{IsComparison}
use Rattle.circuit_model.specs.Out.{IsOut}
use Rattle.circuit_model.specs.WellFormed.{IsWellFormed}
use Rattle.circuit_model.specs.Word.{word_nets}
use Rattle.circuit_model.proofs.DifferingLemmas.{moved_comparison}
use Rattle.circuit_model.proofs.OnesLemmas.{alike_ones, alike_back, alike_long}
use Rattle.stage_model.specs.OutputInBits.{IsOutputInBits}
use Rattle.spec_compare.specs.ValueAt.{at_ones, IsValueAt, IsInInputBits}
use Rattle.spec_compare.specs.Verdict.{IsVerdict, comparison_of}
use Rattle.spec_compare.specs.declared.verdict.Verdict.{Verdict}
use Rattle.spec_compare.specs.declared.verdict.Verdict.TheVariants.{Same, Differ}
use Rattle.spec_compare.proofs.ComparedLemmas.{nets_long}
use Rattle.spec_compare.proofs.SomeOnesLemmas.{as_value}

-- a verdict is the comparison of the two values
pub verdict_comparison : (c : Circuit) (ls rs : Terms) (v : Verdict) → IsVerdict c ls rs v → IsComparison c (IsValueAt c ls) (IsValueAt c rs) (comparison_of (length c.words) v)
verdict_comparison c ls rs Same is = is
verdict_comparison c ls rs (Differ input left right) is = is.differing

-- the output's polynomial stands in input and state bits alone
pub output_in_bits : (c : Circuit) (ts : Terms) → IsOutputInBits c ts → IsInInputBits c ts
output_in_bits c ts is = record { reduced = is.reduced; bits = is.bits_alone; ranks = is.words_alone }

module _ (c d : Circuit) (alike : AreAlike c d) where
  value_there : (ts : Terms) (xs : List ℕ) (e : ℕ) → IsValueAt c ts xs e → IsValueAt d ts xs e
  value_there ts xs e is = record {
    ones = is.ones;
    are = alike_ones c d alike xs is.ones is.are;
    value_is = ap (λ mul. value mul (at_ones is.ones) ts) (sym alike.product) ∙ is.value_is;
  }

  bits_long : IsWellFormed c → IsWellFormed d → length (word_nets c.words) ≡ length (word_nets d.words)
  bits_long well more =
      nets_long c.k c.words (λ w h. (well.words w h).nets)
      ∙ (λ i. alike.k i * alike_long c d alike i)
      ∙ sym (nets_long d.k d.words (λ w h. (more.words w h).nets))

  -- what stands in the bits of one circuit's words stands in those of the other's
  pub in_other_bits : (ts : Terms) → IsWellFormed c → IsWellFormed d → IsInInputBits c ts → IsInInputBits d ts
  in_other_bits ts well more is =
      let P : ℕ → Type 0 = λ k. IsReduced k ts in
      record { reduced = subst P alike.k is.reduced; bits = is.bits; ranks = λ rank high. is.ranks rank (omega (arith, bits_long well more, high)) }

module _ (c d : Circuit) (well : IsWellFormed c) (more : IsWellFormed d) (alike : AreAlike c d) where
  pub outputs_compared : (ls rs : Terms) (v : Verdict) → IsOutputInBits c ls → IsOutputInBits d rs → IsVerdict c ls rs v → IsComparison c (IsOut c) (IsOut d) (comparison_of (length c.words) v)
  outputs_compared ls rs v first second is =
      moved_comparison c (IsValueAt c ls) (IsValueAt c rs) (IsOut c) (IsOut d)
      (λ xs e. as_value c ls xs e well first)
      (λ xs e. ((λ at. (as_value d rs xs e more second).0 (value_there c d alike rs xs e at)), (λ out. value_there d c (alike_back c d alike) rs xs e ((as_value d rs xs e more second).1 out))))
      (comparison_of (length c.words) v) (verdict_comparison c ls rs v is)
