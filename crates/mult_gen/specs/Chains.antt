-- Sums of nets into the bits of a word. Source: Mastrovito, VLSI Architectures for Computations in Galois Fields, Linköping, 1991.
use Rattle.std.specs.Prelude.{ℕ, ◌+◌, ◌*◌, ◌==◌, List, None, Some, slice_index}
use Rattle.std.specs.Int.{bit_at}
use Rattle.make_laws.specs.ProductBits.{x_to}
use Rattle.make_nets.specs.Plan.{Plan, begun, each, gathered, where_so, with_and, with_chain, with_xor}

-- a chain of a list of nets into each of the k nets of z
abbrev pub chains : ℕ → List ℕ → (ℕ → List ℕ) → Plan → Plan
chains k z lists = each k (λ l. with_chain (Some (slice_index z l)) (lists l))

-- the products of the net x and each of the first n nets of b
abbrev pub product_row : ℕ → ℕ → List ℕ → Plan → Plan
product_row n x b = each n (λ j. with_and None x (slice_index b j))

-- the products of each bit of a and each of b, by the first and then by the second, k bits each
abbrev pub products : ℕ → List ℕ → List ℕ → Plan → Plan
products k a b = each k (λ i. product_row k (slice_index a i) b)

-- of the products of bit i of a and the first n bits of b, which are numbered from first, those that add to bit l, where
-- `power e` is x^e: bit l of x^(i + j) is 1
abbrev pub added_in_row : (power : ℕ → ℕ) → (first i l n : ℕ) → List ℕ
added_in_row power first i l n = gathered n (λ j. where_so (bit_at (power (i + j)) l == 1) (first + j))

-- those modulo g, which has degree k
abbrev pub added_row : (k g first i l n : ℕ) → List ℕ
added_row k g first i l n = added_in_row (x_to k g) first i l n

-- of all products, which are numbered from first, those that add to bit l, by the first and then by the second
abbrev pub added_products : (k g first l : ℕ) → List ℕ
added_products k g first l = gathered k (λ i. added_row k g (first + i * k) i l k)

-- The multiplier modulo g, of degree k, over outer nets numbered below `outer`: the products, and for each bit of z the sum of
-- those that add to it.
abbrev pub mastrovito_plan : (outer k g : ℕ) → (a b z : List ℕ) → Plan
mastrovito_plan outer k g a b z = chains k z (added_products k g outer) (products k a b (begun outer))

-- the bits of a that add to bit l of its square: bit l of x^(2 * i) is 1
abbrev pub added_bits : (k g : ℕ) → List ℕ → ℕ → List ℕ
added_bits k g a l = gathered k (λ i. where_so (bit_at (x_to k g (2 * i)) l == 1) (slice_index a i))

-- The squarer: for each bit of z the sum of the bits that add to it.
abbrev pub squarer_plan : (outer k g : ℕ) → (a z : List ℕ) → Plan
squarer_plan outer k g a z = chains k z (added_bits k g a) (begun outer)

-- The adder: for each bit of z the exclusive or of both.
abbrev pub adder_plan : (outer k : ℕ) → (a b z : List ℕ) → Plan
adder_plan outer k a b z = each k (λ i. with_xor (Some (slice_index z i)) (slice_index a i) (slice_index b i)) (begun outer)
