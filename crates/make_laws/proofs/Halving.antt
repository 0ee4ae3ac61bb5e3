-- Division by x modulo a polynomial over 0 and 1 whose last coefficient is 1.
-- Source: Montgomery, Modular multiplication without trial division, Mathematics of Computation 44, 1985; Koç and Acar,
-- Montgomery multiplication in GF(2^k), Designs, Codes and Cryptography 14, 1998.
use Rattle.std.specs.Prelude.{ℕ, zero, suc, ◌*◌, ◌/◌, ◌%◌, bit_xor}
use Rattle.std.specs.Int.{bit_at}

-- u, or u + g where the last coefficient of u is 1, divided by x
abbrev pub halved : (g u : ℕ) → ℕ
halved g u = bit_xor u (u % 2 * g) / 2

-- the sum after i coefficients of a, each of which adds b and is followed by a division by x
unfoldable pub running_sum : (g a b i : ℕ) → ℕ
running_sum g a b zero = 0
running_sum g a b (suc i) = halved g (bit_xor (running_sum g a b i) (bit_at a i * b))
