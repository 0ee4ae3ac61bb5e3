-- The ring of polynomials modulo a monic polynomial (Lidl and Niederreiter, Finite Fields, chapter 1, sections 2 and 3),
-- by functions that give the coefficients.
use Rattle.std.specs.Prelude.{◌≡◌, ℕ, zero, suc, pred, ◌+◌, ◌*◌, ◌%◌, ◌^◌, ◌<◌, ◌≤◌, ◌↔◌, bit_xor}
use Rattle.gf_field.specs.Ring.{IsRing}
use Rattle.gf_field.specs.Field.{HasNoZeroDivisors}
use Rattle.gf_field.specs.Polynomial.{coefficient, IsMonic, IsProductModulo, IsIrreducible}

-- 0, as a polynomial
abbrev pub none : ℕ → ℕ
none i = 0

-- 1, as a polynomial
abbrev pub unit : ℕ → ℕ
unit zero = 1
unit (suc i) = 0

-- the sum of two polynomials
abbrev pub plus : (ℕ → ℕ) → (ℕ → ℕ) → ℕ → ℕ
plus f g i = bit_xor (f i) (g i)

-- the element a times f
abbrev pub times : (ℕ → ℕ → ℕ) → ℕ → (ℕ → ℕ) → ℕ → ℕ
times mul a f i = mul a (f i)

-- x times f
abbrev pub shift : (ℕ → ℕ) → ℕ → ℕ
shift f zero = 0
shift f (suc i) = f i

-- f without its first coefficient, divided by x
abbrev pub rest : (ℕ → ℕ) → ℕ → ℕ
rest f i = f (suc i)

-- x times f modulo g, where g is monic of degree e + 1 and f has degree at most e
abbrev pub step : (ℕ → ℕ → ℕ) → ℕ → (ℕ → ℕ) → (ℕ → ℕ) → ℕ → ℕ
step mul e g f = plus (shift f) (times mul (f e) g)

-- the first m coefficients of u, times f modulo g
abbrev pub reduced : (ℕ → ℕ → ℕ) → ℕ → (ℕ → ℕ) → ℕ → (ℕ → ℕ) → (ℕ → ℕ) → ℕ → ℕ
reduced mul e g zero u f = none
reduced mul e g (suc m) u f = plus (times mul (u 0) f) (step mul e g (reduced mul e g m (rest u) f))

-- the first d coefficients as a number, n bits to a coefficient
abbrev pub packed : ℕ → ℕ → (ℕ → ℕ) → ℕ
packed n zero f = 0
packed n (suc d) f = packed n d (rest f) * 2 ^ n + f 0

-- the product of u and v modulo the polynomial g, which is monic of degree d
unfoldable pub product : (n d : ℕ) → (ℕ → ℕ → ℕ) → (g u v : ℕ) → ℕ
product n d mul g u v =
    packed n d (reduced mul (pred d) (coefficient n g) d (coefficient n (u % 2 ^ (n * d))) (coefficient n (v % 2 ^ (n * d))))

-- modulo a monic polynomial, `product` is the one product of the definition
abbrev pub HasOnlyProduct : ℕ → (ℕ → ℕ → ℕ) → Type 0
HasOnlyProduct n mul =
    (d g u v w : ℕ) → 1 ≤ d → IsMonic n d g → u < 2 ^ (n * d) → v < 2 ^ (n * d)
    → IsProductModulo n d mul g u v w ↔ (w ≡ product n d mul g u v)

-- the quotient by a monic polynomial is a ring
abbrev pub HasQuotientRings : ℕ → (ℕ → ℕ → ℕ) → Type 0
HasQuotientRings n mul =
    (d g : ℕ) → 1 ≤ d → n * d ≤ 64 → IsMonic n d g → IsRing (n * d) (product n d mul g)

-- the quotient by a monic polynomial is a field exactly where the polynomial is irreducible
abbrev pub HasQuotientFields : ℕ → (ℕ → ℕ → ℕ) → Type 0
HasQuotientFields n mul =
    (d g : ℕ) → 1 ≤ d → IsMonic n d g → HasNoZeroDivisors (n * d) (product n d mul g) ↔ IsIrreducible n mul g
