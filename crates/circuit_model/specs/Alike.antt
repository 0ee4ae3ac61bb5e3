-- Circuits over the same words: two netlists that are bound to one signature. Source: this project's own.
use Rattle.std.specs.Prelude.{◌≡◌, ℕ, List, map}
use Rattle.circuit_model.specs.Word.{Word}
use Rattle.circuit_model.specs.Circuit.{Circuit}

-- the bases of the input, state and fed words
abbrev pub bases_of : Circuit → List (List ℕ)
bases_of circuit = map (λ (w : Word). w.basis) circuit.words

-- one field, and one basis for the words of each place; their nets may be any
pub record AreAlike (circuit other : Circuit) : Type 0 where
  pub k : circuit.k ≡ other.k
  pub product : circuit.product ≡ other.product
  pub bases : bases_of circuit ≡ bases_of other
