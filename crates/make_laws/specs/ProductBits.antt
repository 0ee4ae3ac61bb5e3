-- Products of polynomials over 0 and 1, modulo one of them, by the bits of the factors.
-- Source: Mastrovito, VLSI Architectures for Computations in Galois Fields, Linköping, 1991.
use Rattle.std.specs.Prelude.{◌≡◌, ℕ, ◌<◌, ◌^◌, ◌+◌, ◌*◌}
use Rattle.std.specs.Int.{bit_at}
use Rattle.gf_field.specs.Bit.{bit_mul}
use Rattle.gf_field.specs.Power.{power}
use Rattle.gf_field.specs.Polynomial.{sum_of_first}
use Rattle.gf_field.specs.Quotient.{product}
use Rattle.make_laws.specs.Indeterminate.{x_of}

-- x to the i, modulo g, which has degree k
abbrev pub x_to : (k g i : ℕ) → ℕ
x_to k g i = power (product 1 k bit_mul g) (x_of k g) i

-- bit l of a * b is the sum, over i and then j, of a_i * b_j * bit l of x^(i + j)
abbrev pub HasProductBits : (k g : ℕ) → Type 0
HasProductBits k g =
    (a b l : ℕ) → a < 2 ^ k → b < 2 ^ k
    → bit_at (product 1 k bit_mul g a b) l ≡ sum_of_first k (λ i. sum_of_first k (λ j. bit_at a i * bit_at b j * bit_at (x_to k g (i + j)) l))

-- bit l of a * a is the sum over i of a_i * bit l of x^(2 * i)
abbrev pub HasSquareBits : (k g : ℕ) → Type 0
HasSquareBits k g =
    (a l : ℕ) → a < 2 ^ k → bit_at (product 1 k bit_mul g a a) l ≡ sum_of_first k (λ i. bit_at a i * bit_at (x_to k g (2 * i)) l)
