-- Where the products of a digit stand. Source: this project's own.
use Rattle.std.specs.Prelude.{ℕ, ◌+◌, ◌*◌, ◌==◌, List, length}
use Rattle.std.specs.Int.{bit_at}
use Rattle.gf_field.specs.Power.{power}
use Rattle.make_laws.specs.Held.{net_at}
use Rattle.make_nets.specs.Plan.{gathered, where_so}

-- the net of the product of bits e and j, where products are numbered from n, k for each bit of the digit
abbrev pub product_net : ℕ → ℕ → ℕ → ℕ → ℕ
product_net n k e j = n + k * e + j

-- those of the products of bit e and the k bits j for which bit l of x^(e + j) is 1, by j
abbrev pub added_row : (ℕ → ℕ → ℕ) → (x n k l e : ℕ) → List ℕ
added_row mul x n k l e = gathered k (λ j. where_so (bit_at (power mul x (e + j)) l == 1) (product_net n k e j))

-- the bits i of z for which bit l of x^(i + width) is 1
abbrev pub added_registers : (ℕ → ℕ → ℕ) → (x width : ℕ) → (z : List ℕ) → (l : ℕ) → List ℕ
added_registers mul x width z l = gathered (length z) (λ i. where_so (bit_at (power mul x (i + width)) l == 1) (net_at z i))
