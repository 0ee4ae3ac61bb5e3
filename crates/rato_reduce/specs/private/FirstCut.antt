-- The polynomial of the first cut. Source: this project's own.
use Rattle.std.specs.Prelude.{ℕ, List}
use Rattle.net_words.specs.Binding.{BoundNet}
use Rattle.net_words.specs.BoundTo.{output_bits}
use Rattle.poly_mixed.specs.Polynomial.{Terms, IsPolynomialOf}
use Rattle.rato_reduce.specs.BoundVariables.{sum_of_ones}

-- the terms are the output word's element in the bits of its nets, all nets being free
abbrev pub IsFirstCut : ℕ → (ℕ → ℕ → ℕ) → BoundNet → List ℕ → Terms → Type 0
IsFirstCut k mul circuit basis terms = IsPolynomialOf k mul (sum_of_ones circuit basis (output_bits circuit.binding.words)) terms
