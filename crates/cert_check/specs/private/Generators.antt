-- The parts of generators and of the output as functions of points. Source: this project's own.
use Rattle.std.specs.Prelude.{ℕ, List}
use Rattle.gf_basis.specs.declared.bases.Basis.{Basis}
use Rattle.irreducible.specs.Span.{combination}
use Rattle.net_core.specs.GateValue.{GateValue}
use Rattle.net_core.specs.NetList.{nets}
use Rattle.net_words.specs.Binding.{BoundNet}
use Rattle.net_words.specs.Variables.{variables}
use Rattle.poly_mixed.specs.Polynomial.{Point, Terms, IsPolynomialOf}
use Rattle.poly_mixed.specs.Table.{index, table_value}
use Rattle.poly_mixed.specs.declared.steps.Generator.{Generator}
use Rattle.cert_check.specs.Driver.{driver}
use Rattle.cert_check.specs.Running.{net_bit, driven_value, generator_value, output_value}
use Rattle.cert_check.specs.declared.generator.Split.{Split}
use Rattle.cert_check.specs.private.Held.{IsSplit}

-- the words' bits and the other nets in the order of variables
abbrev pub ranked : BoundNet → List ℕ
ranked netlist = variables (nets netlist.net) netlist.binding.words

-- what a gate makes of the bits of its inputs
abbrev pub gate_value : BoundNet → GateValue → Point → ℕ
gate_value netlist gate p = table_value gate.table gate.inputs (net_bit (ranked netlist) p)

-- what the gate that drives a net makes of the bits of its inputs
abbrev pub driver_value : BoundNet → ℕ → Point → ℕ
driver_value netlist n p = driven_value (ranked netlist) p (driver netlist.net n)

-- the sum of the elements whose nets have the bit 1
abbrev pub word_value : BoundNet → List ℕ → List ℕ → Point → ℕ
word_value netlist elements list p = combination elements (index (net_bit (ranked netlist) p) list)

module _ (k : ℕ) (mul : ℕ → ℕ → ℕ) (netlist : BoundNet) (bases : List Basis) where
  -- the polynomial of the output word
  abbrev pub IsOutputSum : Terms → Type 0
  IsOutputSum ts = IsPolynomialOf k mul (output_value k mul netlist bases) ts

  -- monomials and a form, whose sum is the generator
  abbrev pub IsSplitOf : Generator → Split → Type 0
  IsSplitOf generator split = IsSplit k mul netlist bases (generator_value k mul netlist bases generator) split.near.terms split.form
