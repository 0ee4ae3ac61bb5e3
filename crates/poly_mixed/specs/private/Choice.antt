-- A choice between two polynomials by a bit, for the clauses of private functions. Source: this project's own.
use Rattle.std.specs.Prelude.{◌≡◌, ℕ, cond}
use Rattle.poly_mixed.specs.Polynomial.{Terms, Point, IsPoint, value}

module _ (k : ℕ) (mul : ℕ → ℕ → ℕ) where
  -- ts has at each point the value of change where the bit is 1, and 0 where it is 0
  abbrev pub IsBitTimes : ℕ → Terms → Terms → Type 0
  IsBitTimes rank change ts = (p : Point) → IsPoint k p → value mul p ts ≡ mul (cond (p.is_one rank) 1 0) (value mul p change)

  -- ts has at each point the value of high where the bit is 1, and that of low where it is 0
  abbrev pub IsChoice : ℕ → Terms → Terms → Terms → Type 0
  IsChoice rank low high ts = (p : Point) → IsPoint k p → value mul p ts ≡ cond (p.is_one rank) (value mul p high) (value mul p low)
