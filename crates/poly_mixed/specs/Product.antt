-- Products of monomials and of polynomials.
-- In a field of 2^k elements the power 2^k of an element is the element, so exponents are kept below 2^k: an exponent
-- 2^k - 1 stays (it is no power 0 at the element 0), and 2^k becomes 1.
-- Source: Lidl and Niederreiter, Finite Fields, chapter 7.
use Rattle.std.specs.Prelude.{◌≡◌, ℕ, ◌+◌, ◌-◌, ◌^◌, cond, List, [], ◌∷◌, nat_lt, ◌==◌, bit_xor}
use Rattle.poly_mixed.specs.Monomial.{Monomial}
use Rattle.poly_mixed.specs.Polynomial.{Terms, Point, IsPoint, value, term_value}

-- the exponent of the product of two powers of one word
abbrev pub add_exponent : ℕ → ℕ → ℕ → ℕ
add_exponent k i j = cond (nat_lt (i + j) (2 ^ k)) (i + j) (i + j - (2 ^ k - 1))

abbrev pub add_exponents : ℕ → List ℕ → List ℕ → List ℕ
add_exponents k [] fs = []
add_exponents k (e ∷ es) [] = []
add_exponents k (e ∷ es) (f ∷ fs) = add_exponent k e f ∷ add_exponents k es fs

-- rising ranks with one more
abbrev pub with_rank : List ℕ → ℕ → List ℕ
with_rank [] r = r ∷ []
with_rank (x ∷ xs) r = cond (nat_lt r x) (r ∷ x ∷ xs) (cond (r == x) (x ∷ xs) (x ∷ with_rank xs r))

-- rising ranks with several more
abbrev pub union : List ℕ → List ℕ → List ℕ
union xs [] = xs
union xs (r ∷ rs) = union (with_rank xs r) rs

-- the product of two monomials; a bit times itself is the bit
abbrev pub times : ℕ → Monomial → Monomial → Monomial
times k m n = record { exponents = add_exponents k m.exponents n.exponents; bits = union m.bits n.bits }

module _ (k : ℕ) (mul : ℕ → ℕ → ℕ) where
  -- ts has at each point the product of the values of us and vs
  abbrev pub IsProduct : Terms → Terms → Terms → Type 0
  IsProduct ts us vs = (p : Point) → IsPoint k p → value mul p ts ≡ mul (value mul p us) (value mul p vs)

  -- new has at each point the value of old and the product of those of t and us
  abbrev pub AddsProduct : Monomial × ℕ → Terms → Terms → Terms → Type 0
  AddsProduct t us old new = (p : Point) → IsPoint k p → value mul p new ≡ bit_xor (value mul p old) (mul (term_value mul p t) (value mul p us))
