-- Laws of words in place of their bits, for callers. Source: this project's own.
use Rattle.std.specs.Prelude.{◌≡◌, ℕ, List, [], length, map}
use Rattle.net_core.specs.Sound.{IsSound}
use Rattle.net_words.specs.Binding.{BoundNet}
use Rattle.net_words.specs.OneCycle.{IsOneCycle}
use Rattle.gf_field.specs.Ring.{IsRing}
use Rattle.gf_field.specs.Field.{HasNoZeroDivisors}
use Rattle.gf_basis.specs.BasisParts.{elements_of}
use Rattle.gf_basis.specs.declared.bases.Basis.{Basis}
use Rattle.poly_mixed.specs.Polynomial.{Terms, Point, IsPoint, value}
use Rattle.poly_mixed.specs.Cofactor.{LacksBit}
use Rattle.circuit_model.specs.Circuit.{Circuit}
use Rattle.circuit_model.specs.WellFormed.{IsWellFormed}
use Rattle.circuit_model.specs.OfBinding.{output_basis}
use Rattle.circuit_model.specs.Out.{IsOut}
use Rattle.circuit_model.specs.Bases.{AreBases, circuit_in}
use Rattle.stage_model.specs.Cut.{BoundCut}
use Rattle.stage_model.specs.InputPoint.{input_of}
use Rattle.stage_model.specs.Stage.{IsOfStage}
use Rattle.word_subst.specs.WordStages.{IsOfNoWords, IsOfAllWords}

-- words bound to a sound net in one cycle, with one basis of the field for each, make a well-formed circuit
abbrev pub BasesMakeACircuit : Type 0
BasesMakeACircuit = (k : ℕ) (mul : ℕ → ℕ → ℕ) (netlist : BoundNet) (bases : List Basis)
    → IsRing k mul → HasNoZeroDivisors k mul → IsSound netlist.net → IsOneCycle netlist.net netlist.binding → netlist.binding.k ≡ k → AreBases k mul netlist bases
    → IsWellFormed (circuit_in k mul netlist bases)

-- where there are no latches, the polynomial of the last cut, for the basis of the output word, is that of the mix of no words
abbrev pub LastCutIsTaken : Type 0
LastCutIsTaken = (k : ℕ) (mul : ℕ → ℕ → ℕ) (netlist : BoundNet) (bases : List Basis) (basis : List ℕ) (ts : Terms)
    → IsWellFormed (circuit_in k mul netlist bases) → AreBases k mul netlist bases → netlist.net.latches ≡ []
    → basis ≡ output_basis netlist.binding.words (map elements_of bases)
    → IsOfStage k mul (BoundCut netlist basis (length netlist.net.gates)) ts → IsOfNoWords (circuit_in k mul netlist bases) ts

-- the polynomial of the mix of all words has at each point the output at the input with the point's elements
abbrev pub AllWordsHaveTheOutput : Type 0
AllWordsHaveTheOutput = (circuit : Circuit) (ts : Terms) (p : Point)
    → IsWellFormed circuit → IsOfAllWords circuit ts → IsPoint circuit.k p → IsOut circuit (input_of circuit p) (value circuit.product p ts)

-- no bit stands in it
abbrev pub AllWordsLackBits : Type 0
AllWordsLackBits = (circuit : Circuit) (ts : Terms) (rank : ℕ) → IsWellFormed circuit → IsOfAllWords circuit ts → LacksBit rank ts
