-- Powers in a ring. Source: Lidl and Niederreiter, Finite Fields, chapter 1.
use Rattle.std.specs.Prelude.{ℕ, zero, suc}

-- 1, multiplied e times by a
unfoldable pub power : (ℕ → ℕ → ℕ) → ℕ → ℕ → ℕ
power mul a zero = 1
power mul a (suc e) = mul a (power mul a e)
