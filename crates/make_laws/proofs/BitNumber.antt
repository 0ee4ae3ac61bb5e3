-- The number that has given bits.
use Rattle.std.specs.Prelude.{ℕ, zero, suc, ◌+◌, ◌*◌, Bool}
use Rattle.make_laws.specs.Chosen.{chosen}

-- the number with these first bits, the lowest first
abbrev pub number_of_bits : ℕ → (ℕ → Bool) → ℕ
number_of_bits zero a = 0
number_of_bits (suc n) a = chosen (a 0) 1 + 2 * number_of_bits n (λ i. a (suc i))
