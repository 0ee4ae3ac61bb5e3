-- Stages as relations between points and elements: their polynomials and their sizes. Source: this project's own.
use Rattle.std.specs.Prelude.{◌≡◌, ◌↔◌, ℕ, ◌<◌, ◌≤◌, ◌^◌, length}
use Rattle.poly_mixed.specs.Polynomial.{Terms, Point, IsPoint, IsReduced, value}

module _ (k : ℕ) (mul : ℕ → ℕ → ℕ) where
  -- a reduced polynomial to whose value the stage relates each point
  pub record IsOfStage (stage : Point → ℕ → Type 0) (ts : Terms) : Type 0 where
    pub reduced : IsReduced k ts
    pub values : (p : Point) → IsPoint k p → stage p (value mul p ts)

  -- the stage has a polynomial of n terms
  pub record HasSize (stage : Point → ℕ → Type 0) (n : ℕ) : Type 0 where
    pub terms : Terms
    pub is : IsOfStage stage terms
    pub size : length terms ≡ n

  -- the stage has a size, which is not greater than the bound
  pub record IsWithin (stage : Point → ℕ → Type 0) (bound : ℕ) : Type 0 where
    pub size : ℕ
    pub has : HasSize stage size
    pub within : size ≤ bound

  -- the stage has a polynomial
  abbrev pub HasPolynomial : (Point → ℕ → Type 0) → Type 0
  HasPolynomial stage = (ts : Terms) × IsOfStage stage ts

-- the stage relates each point of elements to an element, of the field of 2 to the k elements
abbrev pub RelatesEachPoint : ℕ → (Point → ℕ → Type 0) → Type 0
RelatesEachPoint k stage = (p : Point) → IsPoint k p → (e : ℕ) × stage p e × (e < 2 ^ k)

-- two stages relate each point of elements to the same
abbrev pub AreSameStage : ℕ → (Point → ℕ → Type 0) → (Point → ℕ → Type 0) → Type 0
AreSameStage k stage other = (p : Point) (e : ℕ) → IsPoint k p → stage p e ↔ other p e
