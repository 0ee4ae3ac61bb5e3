-- The field of two elements. Source: Lidl and Niederreiter, Finite Fields, chapter 1.
use Rattle.std.specs.Prelude.{ℕ, ◌*◌, ◌%◌}

-- the product of two bits; of a larger number the last bit counts
abbrev pub bit_mul : ℕ → ℕ → ℕ
bit_mul a b = a % 2 * (b % 2)
