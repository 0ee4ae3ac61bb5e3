-- Products of polynomials over 0 and 1, bit by bit. Source: this project's own; multiplication in binary.
use Rattle.std.specs.Prelude.{◌≡◌, ℕ, zero, suc, pred, ◌<◌, List, slice_index}
use Rattle.gf_field.specs.Bit.{bit_mul}
use Rattle.gf_field.specs.Polynomial.{coefficient}
use Rattle.gf_field.specs.Quotient.{packed, step, reduced}

-- x times the polynomial a, modulo the polynomial g of degree d
unfoldable pub times_x : (d g a : ℕ) → ℕ
times_x d g a = packed 1 d (step bit_mul (pred d) (coefficient 1 g) (coefficient 1 a))

-- x^m times the polynomial a, modulo g
unfoldable pub times_power : (d g m a : ℕ) → ℕ
times_power d g zero a = a
times_power d g (suc m) a = times_x d g (times_power d g m a)

-- the first m coefficients of u, times v, modulo g
unfoldable pub part : (d g m u v : ℕ) → ℕ
part d g m u v = packed 1 d (reduced bit_mul (pred d) (coefficient 1 g) m (coefficient 1 u) (coefficient 1 v))

-- entry n is the product of the polynomial with number n and a
abbrev pub AreParts : (d g a : ℕ) → List ℕ → Type 0
AreParts d g a entries = (n : ℕ) → n < 16 → slice_index entries n ≡ part d g 4 n a
