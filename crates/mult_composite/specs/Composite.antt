-- The gates of a multiplier of a tower, by the coefficients of its factors: n is the degree of the field below, which has the
-- modulus g, and m that of the tower, which has the polynomial t. Place p of a word is bit p % n of coefficient p / n.
-- Source: Mastrovito, VLSI Architectures for Computations in Galois Fields, Linköping, 1991; Paar, Efficient VLSI
-- Architectures for Bit-Parallel Computation in Galois Fields, Essen, 1994.
use Rattle.std.specs.Prelude.{ℕ, ◌+◌, ◌*◌, ◌-◌, ◌/◌, ◌%◌, ◌==◌, List, ◌∷◌, None, Some, slice_index, drop, take}
use Rattle.make_laws.specs.TowerProduct.{adds_to, factor_bit}
use Rattle.make_nets.specs.Plan.{Plan, begun, with_chain, chain_net, each, gathered, where_so}
use Rattle.make_nets.specs.Row.{Row, begun_row, row_by, with_nets}
use Rattle.mult_gen.specs.Chains.{added_products, products as bit_products}

-- the nets of coefficient i of a word
abbrev pub coefficient_nets : (n : ℕ) → List ℕ → ℕ → List ℕ
coefficient_nets n a i = take n (drop (n * i) a)

-- the product of two coefficients on these nets, as Mastrovito's: a net for each bit, the sum of the products of bits that add
-- to it
abbrev pub base_product : (n g : ℕ) → List ℕ → List ℕ → Plan → Row
base_product n g a b plan =
    row_by n (λ l. with_chain None (added_products n g plan.next l)) (λ l so_far. chain_net None (added_products n g plan.next l) so_far) (bit_products n a b plan)

-- the product of coefficient i of a word and coefficient j of another
abbrev pub coefficient_product : (n g : ℕ) → List ℕ → List ℕ → (i j : ℕ) → Plan → Row
coefficient_product n g a b i j plan = base_product n g (coefficient_nets n a i) (coefficient_nets n b j) plan

-- the products of each coefficient of a and each of b, by the first and then by the second
abbrev pub all_products : (n g m : ℕ) → List ℕ → List ℕ → Plan → Row
all_products n g m a b plan =
    each (m * m) (λ q row. with_nets row.nets (coefficient_product n g a b (q / m) (q % m) row.plan)) (begun_row plan)

-- bit l of the products of coefficients whose places add up to d
abbrev pub added_pairs : (n m : ℕ) → List ℕ → (d l : ℕ) → List ℕ
added_pairs n m products d l = gathered m (λ i. where_so (adds_to m d i) (slice_index products ((i * m + (d - i)) * n + l)))

-- the sums of these, for each d from 0 to 2 * m - 2 and then for each bit
abbrev pub pair_sums : (n m : ℕ) → Row → Row
pair_sums n m products =
    row_by ((2 * m - 1) * n) (λ p. with_chain None (added_pairs n m products.nets (p / n) (p % n))) (λ p so_far. chain_net None (added_pairs n m products.nets (p / n) (p % n)) so_far) products.plan

-- what adds to bit l of coefficient e of the product: that sum, and then bit s of the sum for d, for d from m to 2 * m - 2 and
-- then for each s, where bit l of coefficient e of Y to the d times x to the s is 1
abbrev pub added_sums : (n g m t : ℕ) → List ℕ → (e l : ℕ) → List ℕ
added_sums n g m t sums e l =
    slice_index sums (e * n + l) ∷ gathered ((m - 1) * n) (λ q. where_so (factor_bit n g m t (m + q / n) e (q % n) l == 1) (slice_index sums (m * n + q)))

-- the bits of the product
abbrev pub reduced_sums : (n g m t : ℕ) → List ℕ → Row → Plan
reduced_sums n g m t z sums = each (m * n) (λ p. with_chain (Some (slice_index z p)) (added_sums n g m t sums.nets (p / n) (p % n))) sums.plan

-- The multiplier, over outer nets numbered below `outer`, where a, b and z are the nets of the factors and of the product.
abbrev pub composite_plan : (outer n g m t : ℕ) → (a b z : List ℕ) → Plan
composite_plan outer n g m t a b z = reduced_sums n g m t z (pair_sums n m (all_products n g m a b (begun outer)))
