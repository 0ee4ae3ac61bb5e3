-- Products in a tower by the coefficients of the factors (Lidl and Niederreiter, Finite Fields, chapter 1, section 3).
use Rattle.std.specs.Prelude.{◌≡◌, ℕ, ◌<◌, ◌^◌, ◌+◌, ◌*◌, ◌-◌, Bool, ◌&&◌, nat_lt, bit_xor, if◌then◌else◌}
use Rattle.std.specs.Int.{bit_at}
use Rattle.gf_field.specs.Power.{power}
use Rattle.gf_field.specs.Polynomial.{coefficient, convolution, sum_of_first}
use Rattle.gf_field.specs.Quotient.{product}
use Rattle.gf_field.specs.Bit.{bit_mul}
use Rattle.make_laws.specs.ProductBits.{x_to}

-- the sum of all products of a coefficient of a and one of b whose places add up to d
abbrev pub pairs_at : ℕ → (ℕ → ℕ → ℕ) → (a b d : ℕ) → ℕ
pairs_at n mul a b d = convolution mul (coefficient n a) (coefficient n b) d

-- Y to the d in the tower by g, of degree m, over a ring with n bits; Y is the number 2 to the n
abbrev pub Y_to : (n m : ℕ) → (ℕ → ℕ → ℕ) → (g d : ℕ) → ℕ
Y_to n m mul g d = power (product n m mul g) (2 ^ n) d

-- coefficient e of a * b is what the pairs with the sum e add, and what those with the sums d from m to 2 * m - 2 add,
-- times coefficient e of Y^d
abbrev pub HasTowerCoefficients : (n m : ℕ) → (ℕ → ℕ → ℕ) → ℕ → Type 0
HasTowerCoefficients n m mul g =
    (a b e : ℕ) → a < 2 ^ (n * m) → b < 2 ^ (n * m) → e < m
    → coefficient n (product n m mul g a b) e
    ≡ bit_xor (pairs_at n mul a b e) (sum_of_first (m - 1) (λ t. mul (pairs_at n mul a b (m + t)) (coefficient n (Y_to n m mul g (m + t)) e)))

-- place i of m and a place of m add up to d
abbrev pub adds_to : (m d i : ℕ) → Bool
adds_to m d i = nat_lt i (d + 1) && nat_lt d (i + m)

-- bit l of what the pairs with the sum d add: the sum over the first places of the bits of the products
abbrev pub pair_bit : (n g m a b d l : ℕ) → ℕ
pair_bit n g m a b d l = sum_of_first m (λ i. if adds_to m d i then bit_at (product 1 n bit_mul g (coefficient n a i) (coefficient n b (d - i))) l else 0)

-- bit l of coefficient e of Y^d times x^s
abbrev pub factor_bit : (n g m t d e s l : ℕ) → ℕ
factor_bit n g m t d e s l = bit_at (product 1 n bit_mul g (x_to n g s) (coefficient n (Y_to n m (product 1 n bit_mul g) t d) e)) l

-- Over polynomials over 0 and 1 modulo g, of degree n: bit l of coefficient e of a * b, modulo t, which has degree m, is what
-- the pairs with the sum e add to it, and then, for each sum d from m to 2 * m - 2 and each s below n, bit s of what the
-- pairs with the sum d add, times bit l of coefficient e of Y^d times x^s.
abbrev pub HasTowerBits : (n g m t : ℕ) → Type 0
HasTowerBits n g m t =
    (a b e l : ℕ) → a < 2 ^ (n * m) → b < 2 ^ (n * m) → e < m
    → bit_at (coefficient n (product n m (product 1 n bit_mul g) t a b) e) l
    ≡ bit_xor (pair_bit n g m a b e l) (sum_of_first (m - 1) (λ i. sum_of_first n (λ s. pair_bit n g m a b (m + i) s * factor_bit n g m t (m + i) e s l)))
