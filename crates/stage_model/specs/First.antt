-- What looks at the first words and at the bits of the first ranks alone. Source: this project's own.
use Rattle.std.specs.Prelude.{◌≡◌, ℕ, ◌<◌, ◌≤◌, ◌^◌, slice_get}
use Rattle.poly_mixed.specs.Polynomial.{Terms, Point, IsPoint, IsPolynomialOf}
use Rattle.poly_mixed.specs.Cofactor.{LacksBit}
use Rattle.poly_mixed.specs.laws.Uniqueness.{InFirstWords}
use Rattle.circuit_model.specs.FieldLaws.{FieldLaws}

-- the points have the same elements in the first words, and the same bits at the first ranks
pub record AgreeAtFirst (words ranks : ℕ) (p q : Point) : Type 0 where
  pub elements : (i : ℕ) → i < words → slice_get p.words i ≡ slice_get q.words i
  pub bits : (r : ℕ) → r < ranks → p.is_one r ≡ q.is_one r

-- a function to elements of the field that looks at the first words and ranks alone
pub record IsFunctionOfFirst (k words ranks : ℕ) (h : Point → ℕ) : Type 0 where
  pub element : (p : Point) → IsPoint k p → h p < 2 ^ k
  pub alone : (p q : Point) → IsPoint k p → IsPoint k q → AgreeAtFirst words ranks p q → h p ≡ h q

-- no bit stands in the terms but those of the first ranks
abbrev pub InFirstRanks : ℕ → Terms → Type 0
InFirstRanks ranks ts = (rank : ℕ) → ranks ≤ rank → LacksBit rank ts

-- the function has a reduced polynomial in these words and in the bits of these ranks alone
abbrev pub HasPolynomialInFirst : FieldLaws → ℕ → ℕ → (Point → ℕ) → Type 0
HasPolynomialInFirst field words ranks h = (ts : Terms) × IsPolynomialOf field.k field.product h ts × InFirstWords words ts × InFirstRanks ranks ts
