-- Worked examples.
use Rattle.std.specs.Prelude.{◌≡◌, refl, ℕ, zero, suc, Bool, true, false}
use Rattle.make_laws.specs.Chosen.{sum_of_chosen}
use Rattle.make_laws.specs.NormalRegisters.{turned}
use Rattle.make_laws.proofs.BitNumber.{number_of_bits}

-- the bits 1, 0, 1
bits : ℕ → Bool
bits zero = true
bits (suc zero) = false
bits (suc (suc i)) = true

elements : ℕ → ℕ
elements zero = 2
elements (suc zero) = 4
elements (suc (suc i)) = 6

number : number_of_bits 3 bits ≡ 5
unfolding bits
number = refl

sum : sum_of_chosen 3 bits elements ≡ 4
unfolding bits elements
sum = refl

-- turned by one place they are 1, 1, 0
turned_number : number_of_bits 3 (turned 3 bits) ≡ 3
unfolding bits
turned_number = refl
