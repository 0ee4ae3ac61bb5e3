-- The terms with a bit, and a polynomial put in place of a bit.
-- As a function of one bit, a polynomial is f + bit * g, where g is its cofactor and f has the terms without the bit.
-- Source: the cofactor of switching theory (Shannon's expansion), over a field.
use Rattle.std.specs.Prelude.{◌≡◌, ℕ, Bool, true, false, cond, not, [], ◌∷◌, bit_xor, nat_eq}
use Rattle.std.specs.List.{filter, AllByRecursion}
use Rattle.poly_mixed.specs.Monomial.{Monomial, has_bit}
use Rattle.poly_mixed.specs.Polynomial.{Terms, Point, IsPoint, value, coefficient}
use Rattle.poly_mixed.specs.Product.{with_rank}

-- the bit stands in no term
abbrev pub LacksBit : ℕ → Terms → Type 0
LacksBit bit ts = AllByRecursion (λ t. has_bit bit t.0 ≡ false) ts

-- the monomial with the bit
abbrev pub with_bit : ℕ → Monomial → Monomial
with_bit bit m = record { exponents = m.exponents; bits = with_rank m.bits bit }

-- the monomial without the bit
abbrev pub without_bit : ℕ → Monomial → Monomial
without_bit bit m = record { exponents = m.exponents; bits = filter (λ r. not (nat_eq r bit)) m.bits }

-- ts are the terms of us that have the bit, without it: no term of ts has the bit, and a monomial without the bit has
-- the coefficient that the monomial with the bit has in us
abbrev pub IsCofactor : ℕ → Terms → Terms → Type 0
IsCofactor bit us ts = (m : Monomial) → coefficient ts m ≡ cond (has_bit bit m) 0 (coefficient us (with_bit bit m))

-- the terms that lack the bit
abbrev pub lacking : ℕ → Terms → Terms
lacking bit ts = filter (λ t. not (has_bit bit t.0)) ts

-- the terms that have it, without it
abbrev pub cofactors : ℕ → Terms → Terms
cofactors bit [] = []
cofactors bit (t ∷ ts) = cond (has_bit bit t.0) ((without_bit bit t.0, t.1) ∷ cofactors bit ts) (cofactors bit ts)

-- the point with this value of the bit
abbrev pub at_bit : Point → ℕ → Bool → Point
at_bit p bit b = record { words = p.words; is_one = λ r. cond (nat_eq r bit) b (p.is_one r) }

-- at each point ts adds the values that us has with the bit at 1 and at 0
abbrev pub HasCofactorValues : (ℕ → ℕ → ℕ) → ℕ → Terms → Terms → Type 0
HasCofactorValues mul bit us ts = (p : Point) → value mul p ts ≡ bit_xor (value mul (at_bit p bit true) us) (value mul (at_bit p bit false) us)

module _ (k : ℕ) (mul : ℕ → ℕ → ℕ) where
  -- new has at each point the value of old with the value of by in place of the bit
  abbrev pub IsSubstituted : ℕ → Terms → Terms → Terms → Type 0
  IsSubstituted bit by old new = (p : Point) → IsPoint k p → value mul p new
      ≡ bit_xor (value mul (at_bit p bit false) old) (mul (value mul p by) (bit_xor (value mul (at_bit p bit true) old) (value mul (at_bit p bit false) old)))
