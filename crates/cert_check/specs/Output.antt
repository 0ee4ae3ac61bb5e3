-- What a proved claim is. Source: Pruss, Kalla, Enescu, DAC 2014, for the output as a polynomial in words.
use Rattle.std.specs.Prelude.{◌≡◌, ℕ, List, [], length, take, Ok}
use Rattle.std.specs.List.{AllByRecursion}
use Rattle.gf_field.specs.Ring.{IsRing}
use Rattle.gf_field.specs.Field.{HasNoZeroDivisors}
use Rattle.gf_basis.specs.declared.bases.Basis.{Basis}
use Rattle.net_core.specs.Sound.{IsSound}
use Rattle.net_words.specs.Binding.{BoundNet}
use Rattle.net_words.specs.OneCycle.{IsOneCycle}
use Rattle.poly_mixed.specs.Labels.{Labelling}
use Rattle.poly_mixed.specs.Polynomial.{Terms, Point, IsPoint, IsReduced, value}
use Rattle.poly_mixed.specs.laws.Uniqueness.{InFirstWords}
use Rattle.circuit_model.specs.Bases.{AreBases, circuit_in}
use Rattle.circuit_model.specs.Circuit.{Circuit}
use Rattle.circuit_model.specs.Out.{IsOut}
use Rattle.cert_check.specs.Labels.{NameWords}
use Rattle.cert_check.specs.Verdict.{valid, Check}

-- reduced, in the circuit's words alone, without bits, and at each input, by its point, the output's value
pub record IsOutput (circuit : Circuit) (claim : Terms) : Type 0 where
  pub reduced : IsReduced circuit.k claim
  pub words_alone : InFirstWords (length circuit.words) claim
  pub no_bits : AllByRecursion (λ t. t.0.bits ≡ []) claim
  pub values : (p : Point) → IsPoint circuit.k p → IsOut circuit (take (length circuit.words) p.words) (value circuit.product p claim)

-- whatever its text, a certificate with the verdict `valid` has the output as its claim
abbrev pub ProvesOutput : Type 0
ProvesOutput = (k : ℕ) (mul : ℕ → ℕ → ℕ) (netlist : BoundNet) (bases : List Basis) (labels : Labelling) (most : ℕ) (bytes : List ℕ) (claim : Terms) → IsRing k mul → HasNoZeroDivisors k mul → IsSound netlist.net → IsOneCycle netlist.net netlist.binding → netlist.binding.k ≡ k → AreBases k mul netlist bases → NameWords netlist.binding labels → Check k mul netlist bases labels most bytes (Ok (valid claim)) → IsOutput (circuit_in k mul netlist bases) claim
