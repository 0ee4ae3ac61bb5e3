-- That a function has one polynomial, and so one size.
-- Source: Lidl and Niederreiter, Finite Fields, chapter 7.
use Rattle.std.specs.Prelude.{◌≡◌, ℕ, List, length, drop}
use Rattle.std.specs.List.{AllByRecursion}
use Rattle.poly_mixed.specs.Polynomial.{Terms, Point, IsPoint, IsReduced, IsPolynomialOf, value}

abbrev pub IsZeros : List ℕ → Type 0
IsZeros es = AllByRecursion (λ e. e ≡ 0) es

-- no word from the n-th on stands in the terms: its exponent is 0
abbrev pub InFirstWords : ℕ → Terms → Type 0
InFirstWords n ts = AllByRecursion (λ t. IsZeros (drop n t.0.exponents)) ts

-- no word stands in the terms
abbrev pub InBits : Terms → Type 0
InBits ts = InFirstWords 0 ts

module _ (k : ℕ) (mul : ℕ → ℕ → ℕ) where
  abbrev pub HaveSameValues : Terms → Terms → Type 0
  HaveSameValues ts us = (p : Point) → IsPoint k p → value mul p ts ≡ value mul p us

  -- two reduced polynomials in bits alone with equal values are equal
  abbrev pub UniqueInBits : Type 0
  UniqueInBits = (ts us : Terms) → IsReduced k ts → IsReduced k us → InBits ts → InBits us → HaveSameValues ts us → ts ≡ us

  -- two reduced polynomials in words and bits with equal values are equal
  abbrev pub Unique : Type 0
  Unique = (ts us : Terms) → IsReduced k ts → IsReduced k us → HaveSameValues ts us → ts ≡ us

  -- a polynomial of the function has n terms
  pub record HasSize (h : Point → ℕ) (n : ℕ) : Type 0 where
    pub terms : Terms
    pub is : IsPolynomialOf k mul h terms
    pub size : length terms ≡ n

  -- a function has one size
  abbrev pub OneSize : Type 0
  OneSize = (h : Point → ℕ) (m n : ℕ) → HasSize h m → HasSize h n → m ≡ n
