-- What a comparison of two polynomials in input, state and fed bits answers. Source: this project's own.
use Rattle.std.specs.Prelude.{◌≡◌, ℕ, List, length, take, drop, Option, None, Some}
use Rattle.poly_mixed.specs.Polynomial.{Terms}
use Rattle.poly_mixed.specs.laws.Uniqueness.{IsZeros}
use Rattle.circuit_model.specs.Alike.{AreAlike}
use Rattle.circuit_model.specs.Circuit.{Circuit}
use Rattle.circuit_model.specs.Out.{IsOut}
use Rattle.circuit_model.specs.WellFormed.{IsWellFormed}
use Rattle.stage_model.specs.OutputInBits.{IsOutputInBits}
use Rattle.spec_compare.specs.declared.verdict.Verdict.{Verdict}
use Rattle.spec_compare.specs.declared.verdict.Verdict.TheVariants.{Same, Differ}
use Rattle.circuit_model.specs.Differing.{IsComparison, IsDifferingInput, AreSame, Difference}
use Rattle.spec_compare.specs.ValueAt.{IsValueAt}

-- an input for each word and then zeros
pub record IsDifference (circuit : Circuit) (ls rs : Terms) (input : List ℕ) (left right : ℕ) : Type 0 where
  pub long : length input ≡ 8
  pub differing : IsDifferingInput circuit (IsValueAt circuit ls) (IsValueAt circuit rs) (take (length circuit.words) input) left right
  pub rest : IsZeros (drop (length circuit.words) input)

-- the values are the same at every input; or the differing input with the two values there, words not in use being 0
abbrev pub IsVerdict : Circuit → Terms → Terms → Verdict → Type 0
IsVerdict circuit ls rs Same = AreSame circuit (IsValueAt circuit ls) (IsValueAt circuit rs)
IsVerdict circuit ls rs (Differ input left right) = IsDifference circuit ls rs input left right

-- what a verdict says of functions of so many words
abbrev pub comparison_of : ℕ → Verdict → Option Difference
comparison_of count Same = None
comparison_of count (Differ input left right) = Some (record { input = take count input; left = left; right = right })

-- two well-formed circuits over the same words
pub record AreComparable (circuit other : Circuit) : Type 0 where
  pub well : IsWellFormed circuit
  pub other_well : IsWellFormed other
  pub alike : AreAlike circuit other

-- the verdict on the polynomials in bits of the outputs of two circuits
pub record IsOutputVerdict (circuit other : Circuit) (verdict : Verdict) : Type 0 where
  pub ls : Terms
  pub rs : Terms
  pub left : IsOutputInBits circuit ls
  pub right : IsOutputInBits other rs
  pub is : IsVerdict circuit ls rs verdict

-- the verdict as the comparison of the outputs of two circuits
abbrev pub IsOutputComparison : Circuit → Circuit → Verdict → Type 0
IsOutputComparison circuit other verdict = IsComparison circuit (IsOut circuit) (IsOut other) (comparison_of (length circuit.words) verdict)
