-- The input at which two functions of a circuit's input are told apart: of all inputs where they differ the one with the
-- fewest bits that are 1, and among several the one whose rising list of ranks of these bits is lexicographically first.
-- Source: this project's own.
use Rattle.std.specs.Prelude.{◌≡◌, ◌≢◌, ℕ, List, Option, None, Some}
use Rattle.std.specs.declared.cmp.Ordering.TheVariants.{Greater}
use Rattle.circuit_model.specs.Circuit.{Circuit, IsInput}
use Rattle.circuit_model.specs.Ones.{AreOnes, ones_cmp}

-- at the input the first one has one element and the second one another
pub record Differ (f g : List ℕ → ℕ → Type 0) (xs : List ℕ) (left right : ℕ) : Type 0 where
  pub first : f xs left
  pub second : g xs right
  pub apart : left ≢ right

-- the input, with the two elements there
pub record IsDifferingInput (circuit : Circuit) (f g : List ℕ → ℕ → Type 0) (xs : List ℕ) (left right : ℕ) : Type 0 where
  pub differ : Differ f g xs left right
  pub ones : List ℕ
  pub are : AreOnes circuit xs ones
  pub least : (ys others : List ℕ) (l r : ℕ) → AreOnes circuit ys others → Differ f g ys l r → ones_cmp ones others ≢ Greater

-- wherever both have an element, it is the same
abbrev pub AreSame : Circuit → (List ℕ → ℕ → Type 0) → (List ℕ → ℕ → Type 0) → Type 0
AreSame circuit f g = (xs : List ℕ) (left right : ℕ) → IsInput circuit xs → f xs left → g xs right → left ≡ right

-- an input with one element each of two functions
pub record Difference : Type 0 where
  pub input : List ℕ
  pub left : ℕ
  pub right : ℕ

-- what a comparison of two functions says: they are the same, or the input at which they are told apart
abbrev pub IsComparison : Circuit → (List ℕ → ℕ → Type 0) → (List ℕ → ℕ → Type 0) → Option Difference → Type 0
IsComparison circuit f g None = AreSame circuit f g
IsComparison circuit f g (Some found) = IsDifferingInput circuit f g found.input found.left found.right
