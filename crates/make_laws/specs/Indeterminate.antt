-- The element x of the polynomials over 0 and 1 modulo one of them (Lidl and Niederreiter, Finite Fields, chapter 1, section 3).
use Rattle.std.specs.Prelude.{ℕ, zero, suc, ◌%◌}

-- the remainder of the polynomial x by g, which has degree k: the number 2, and the last bit of g where k is 1
abbrev pub x_of : (k g : ℕ) → ℕ
x_of zero g = 0
x_of (suc zero) g = g % 2
x_of (suc (suc d)) g = 2
