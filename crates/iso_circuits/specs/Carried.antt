-- A circuit and the same nets over an isomorphic field, with each basis carried over by the isomorphism.
-- Source: this project's own; an isomorphism of fields is a linear map that is one to one.
use Rattle.std.specs.Prelude.{◌≡◌, ℕ, ◌<◌, ◌*◌, ◌^◌, ◌↔◌, List, length, map}
use Rattle.lists.specs.Lists.{Has}
use Rattle.gf_basis.specs.Basis.{IsBasis, first_values}
use Rattle.gf_iso.specs.Images.{images_of}
use Rattle.gf_iso.specs.Isomorphism.{IsIsoOf}
use Rattle.circuit_model.specs.Circuit.{Circuit, IsInput}
use Rattle.circuit_model.specs.Out.{IsOut}
use Rattle.circuit_model.specs.Word.{Word}

-- the word on the nets of another whose basis has the images of its elements
abbrev pub carried_word : (ℕ → ℕ) → Word → Word
carried_word there word = record { role = word.role; nets = word.nets; basis = map there word.basis }

-- the circuit with the nets of another, over a field with this product
abbrev pub carried : (ℕ → ℕ → ℕ) → (ℕ → ℕ) → Circuit → Circuit
carried product there c = record {
  k = c.k;
  product = product;
  net = c.net;
  words = map (carried_word there) c.words;
  output = carried_word there c.output;
  feeds = c.feeds;
  cycles = c.cycles;
}

-- each word has a basis of the field
pub record HasBases (circuit : Circuit) : Type 0 where
  pub words : (w : Word) → Has circuit.words w → IsBasis circuit.k w.basis
  pub output : IsBasis circuit.k circuit.output.basis

-- over the isomorphic field the output at the images of an input is the image of the output
abbrev pub HaveImageOutputs : Type 0
HaveImageOutputs =
    (n g : ℕ) (cs : List ℕ) (big : ℕ → ℕ → ℕ) (there back : ℕ → ℕ) (circuit : Circuit) (xs : List ℕ) (e : ℕ)
    → IsIsoOf n g cs big there back
    → circuit.k ≡ n * length cs
    → HasBases circuit
    → IsInput circuit xs
    → e < 2 ^ circuit.k
    → IsOut circuit xs e ↔ IsOut (carried big there circuit) (map there xs) (there e)

-- the basis of the numbers 1, 2, 4, .. is carried over to the images of these
abbrev pub AreUnitImages : Type 0
AreUnitImages = (k : ℕ) (there : ℕ → ℕ) → map there (first_values k (λ i. 2 ^ i)) ≡ images_of k there
