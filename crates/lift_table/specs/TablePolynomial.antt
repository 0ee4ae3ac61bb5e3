-- The polynomial of a table. Source: Lidl and Niederreiter, Finite Fields, chapter 7.
use Rattle.std.specs.Prelude.{◌≡◌, ℕ, List, [], take}
use Rattle.std.specs.List.{AllByRecursion}
use Rattle.poly_mixed.specs.Polynomial.{Terms, Point, IsPoint, IsReduced, value}
use Rattle.poly_mixed.specs.laws.Uniqueness.{InFirstWords}
use Rattle.lift_table.specs.Table.{IsTableValue}

-- reduced, in the first words alone, without bits, and with the value of the table's function at each input
pub record IsPolynomialOfTable (k : ℕ) (mul : ℕ → ℕ → ℕ) (words : ℕ) (table : List ℕ) (ts : Terms) : Type 0 where
  pub reduced : IsReduced k ts
  pub words_alone : InFirstWords words ts
  pub no_bits : AllByRecursion (λ t. t.0.bits ≡ []) ts
  pub values : (p : Point) → IsPoint k p → IsTableValue k table (take words p.words) (value mul p ts)

-- at most one list of terms is the polynomial of the table
abbrev pub HasOnePolynomial : ℕ → (ℕ → ℕ → ℕ) → ℕ → List ℕ → Type 0
HasOnePolynomial k mul words table = (ts us : Terms) → IsPolynomialOfTable k mul words table ts → IsPolynomialOfTable k mul words table us → ts ≡ us
