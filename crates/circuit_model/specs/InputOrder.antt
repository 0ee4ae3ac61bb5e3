-- How inputs follow each other. Source: this project's own.
use Rattle.std.specs.Prelude.{◌≡◌, ◌≢◌, ℕ, List}
use Rattle.std.specs.declared.cmp.Ordering.TheVariants.{Greater}
use Rattle.circuit_model.specs.Circuit.{Circuit}
use Rattle.circuit_model.specs.WellFormed.{IsWellFormed}
use Rattle.circuit_model.specs.Differing.{IsDifferingInput}
use Rattle.circuit_model.specs.Ones.{AreOnes, ones_cmp}

-- of two inputs neither of which comes after the other by their bits that are 1, each is the other
abbrev pub AreOrdered : Circuit → Type 0
AreOrdered circuit = (xs ys ones others : List ℕ) → IsWellFormed circuit → AreOnes circuit xs ones → AreOnes circuit ys others → ones_cmp ones others ≢ Greater → ones_cmp others ones ≢ Greater → xs ≡ ys

-- two functions are told apart at one input at most, with one element each
abbrev pub HasOneDifferingInput : Circuit → (List ℕ → ℕ → Type 0) → (List ℕ → ℕ → Type 0) → Type 0
HasOneDifferingInput circuit f g = (xs ys : List ℕ) (left right l r : ℕ) → IsDifferingInput circuit f g xs left right → IsDifferingInput circuit f g ys l r → (xs ≡ ys) × (left ≡ l) × (right ≡ r)
