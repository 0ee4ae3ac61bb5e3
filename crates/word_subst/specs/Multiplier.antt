-- A polynomial times bits. Source: this project's own.
use Rattle.std.specs.Prelude.{◌≡◌, ℕ, cond, List}
use Rattle.std.specs.List.{list_all}
use Rattle.poly_mixed.specs.Polynomial.{Terms, Point, IsPoint, IsReduced, value}

-- a reduced polynomial with the value of the other where all these bits are 1, and else 0
pub record IsWithBits (k : ℕ) (mul : ℕ → ℕ → ℕ) (product : Terms) (bits : List ℕ) (ts : Terms) : Type 0 where
  pub reduced : IsReduced k ts
  pub values : (p : Point) → IsPoint k p → value mul p ts ≡ cond (list_all p.is_one bits) (value mul p product) 0
