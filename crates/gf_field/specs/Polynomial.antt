-- Polynomials over a ring (Lidl and Niederreiter, Finite Fields, chapter 1, section 3). A polynomial is a list of
-- coefficients, packed into a number: coefficient i stands in the n bits from n * i on, n being the ring's k.
use Rattle.std.specs.Prelude.{ℕ, zero, suc, ◌*◌, ◌/◌, ◌%◌, ◌^◌, ◌<◌, ◌≤◌, ◌-◌, ◌≡◌, ◌≢◌, bit_xor}

-- coefficient i of the polynomial u
abbrev pub coefficient : ℕ → ℕ → ℕ → ℕ
coefficient n u i = u / 2 ^ (n * i) % 2 ^ n

-- the coefficients of a product: at place i the sum of all f j * g l with j + l = i
abbrev pub convolution : (ℕ → ℕ → ℕ) → (ℕ → ℕ) → (ℕ → ℕ) → ℕ → ℕ
convolution mul f g zero = mul (f 0) (g 0)
convolution mul f g (suc i) = bit_xor (mul (f 0) (g (suc i))) (convolution mul (λ j. f (suc j)) g i)

-- the sum of the first m values of f
abbrev pub sum_of_first : ℕ → (ℕ → ℕ) → ℕ
sum_of_first zero f = 0
sum_of_first (suc m) f = bit_xor (sum_of_first m f) (f m)

-- the convolution as textbooks write it: coefficient i is the sum of f j * g (i - j) for j from 0 to i
abbrev pub IsSumOverPairs : (ℕ → ℕ → ℕ) → Type 0
IsSumOverPairs mul = (f g : ℕ → ℕ) (i : ℕ) → convolution mul f g i ≡ sum_of_first (suc i) (λ j. mul (f j) (g (i - j)))

-- u has degree d
pub record IsDegree (n d u : ℕ) : Type 0 where
  pub leading : coefficient n u d ≢ 0
  pub last : (i : ℕ) → d < i → coefficient n u i ≡ 0

-- g is monic of degree d
pub record IsMonic (n d g : ℕ) : Type 0 where
  pub leading : coefficient n g d ≡ 1
  pub last : (i : ℕ) → d < i → coefficient n g i ≡ 0

-- g is a * b
pub record IsTimes (n : ℕ) (mul : ℕ → ℕ → ℕ) (a b g : ℕ) : Type 0 where
  pub same : (i : ℕ) → convolution mul (coefficient n a) (coefficient n b) i ≡ coefficient n g i

-- g has degree at least 1 and is no product of two polynomials of degree at least 1
pub record IsIrreducible (n : ℕ) (mul : ℕ → ℕ → ℕ) (g : ℕ) : Type 0 where
  pub degree : ℕ
  pub is_degree : IsDegree n degree g
  pub positive : 1 ≤ degree
  pub prime : (a b i j : ℕ) → IsDegree n i a → IsDegree n j b → 1 ≤ i → 1 ≤ j → IsTimes n mul a b g → ⊥

-- w is the product of u and v modulo g, which has degree d: w has d coefficients, and u * v + w is a multiple of g
pub record IsProductModulo (n d : ℕ) (mul : ℕ → ℕ → ℕ) (g u v w : ℕ) : Type 0 where
  pub short : w < 2 ^ (n * d)
  pub quotient : ℕ
  pub multiple : (i : ℕ) → bit_xor (convolution mul (coefficient n u) (coefficient n v) i) (coefficient n w i) ≡ convolution mul (coefficient n quotient) (coefficient n g) i
