-- The variables of a net list with bound words, and sums over its nets. Source: this project's own.
use Rattle.std.specs.Prelude.{◌≡◌, ℕ, List, map, cond, bit_xor}
use Rattle.irreducible.specs.Span.{combination}
use Rattle.net_core.specs.GateValue.{GateValue}
use Rattle.net_core.specs.NetList.{nets}
use Rattle.net_words.specs.Binding.{BoundNet}
use Rattle.net_words.specs.Variables.{variables}
use Rattle.poly_mixed.specs.Polynomial.{Terms, Point, IsPoint, value}
use Rattle.poly_mixed.specs.Table.{index}
use Rattle.stage_model.specs.Variables.{rank_in, point_bit}

-- the variables of a net list with bound words
abbrev pub bound_variables : BoundNet → List ℕ
bound_variables circuit = variables (nets circuit.net) circuit.binding.words

-- the sum of the elements whose nets' bits are 1 at a point
abbrev pub sum_of_ones : BoundNet → List ℕ → List ℕ → Point → ℕ
sum_of_ones circuit elements list = λ p. combination elements (index (point_bit (bound_variables circuit) p) list)

-- the ranks of the inputs of a gate
abbrev pub ranks_of_inputs : BoundNet → GateValue → List ℕ
ranks_of_inputs circuit gate = map (rank_in (bound_variables circuit)) gate.inputs

-- new has at each point the value of old, and the element as well where the bit is 1
abbrev pub AddsWhereBit : ℕ → (ℕ → ℕ → ℕ) → ℕ → ℕ → Terms → Terms → Type 0
AddsWhereBit k mul rank element old new = (p : Point) → IsPoint k p → value mul p new ≡ bit_xor (value mul p old) (cond (p.is_one rank) element 0)
