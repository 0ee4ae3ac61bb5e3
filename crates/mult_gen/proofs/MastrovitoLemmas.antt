-- The multiplier computes the product.
use Rattle.std.proofs.Common.{◌≡◌, ◌∙◌, ap, ap₂, sym, subst, inr, ℕ, ◌<◌, ◌≤◌, ◌+◌, ◌*◌, ◌^◌, Bool, List, [], length, arith}
use Rattle.std.specs.Prelude.{slice_index, ◌==◌}
use Rattle.std.specs.Int.{bit_at}
use Rattle.std.proofs.lemmas.Nat.Bits.{bit_at-lt}
use Rattle.lists.specs.Lists.{Has}
use Rattle.lists.specs.laws.NumberLaws.{mul_few, place_below, square_few}
use Rattle.circuit_model.proofs.WordLemmas.{index_small}
use Rattle.gf_field.proofs.SharedLemmas.{same_sum}
use Rattle.gf_field.specs.Bit.{bit_mul}
use Rattle.gf_field.specs.Polynomial.{sum_of_first}
use Rattle.gf_field.specs.Quotient.{product}
use Rattle.gf_field.specs.Ring.{IsRing}
use Rattle.net_core.specs.Value.{index_of}
use Rattle.make_laws.specs.ProductBits.{x_to, HasProductBits}
use Rattle.make_nets.specs.Plan.{begun, where_so}
use Rattle.make_nets.specs.PlanShape.{IsWellMade}
use Rattle.make_nets.specs.PlanValue.{Agrees, parity, bit_at_net}
use Rattle.make_nets.proofs.EachLemmas.{gathered_has}
use Rattle.make_nets.proofs.ShapeLemmas.{begun_made}
use Rattle.make_nets.proofs.ValueLemmas.{gathered_parity, where_parity}
use Rattle.make_nets.proofs.PolyLemmas.{index_bit}
use Rattle.mult_gen.specs.Chains.{added_products, added_row, mastrovito_plan, products}
use Rattle.mult_gen.proofs.ChainLemmas.{chains_before, chains_made, chains_next, chains_value, gathered_all, gathered_few, where_few, where_has}
use Rattle.mult_gen.proofs.PolyLemmas.{index_is}
use Rattle.mult_gen.proofs.ProductLemmas.{product_value, products_made, rows_next}

-- a list has no more nets than there are products
pub added_few : (k g first l : ℕ) → length (added_products k g first l) ≤ k * k
added_few k g first l =
    omega (arith, gathered_few (λ i. added_row k g (first + i * k) i l k) k (k * 1) (λ i low. gathered_few (λ j. where_so (bit_at (x_to k g (i + j)) l == 1) (first + i * k + j)) k 1 (λ j high. where_few (bit_at (x_to k g (i + j)) l == 1) (first + i * k + j))), one k)
  where
    one : (n : ℕ) → n * (n * 1) ≡ n * n
    one n = ap (λ m. n * m) (omega arith)

pub products_few : (outer k g l : ℕ) → k ≤ 64 → length (added_products k g outer l) ≤ 4096
products_few outer k g l few = omega (arith, added_few k g outer l, square_few k few)

-- each of them is a product
pub added_has : (k g first l n : ℕ) → Has (added_products k g first l) n → (first ≤ n) × (n < first + k * k)
added_has k g first l n has =
    let row = gathered_has (λ i. added_row k g (first + i * k) i l k) k n has in
    let place = gathered_has (λ j. where_so (bit_at (x_to k g (row.0 + j)) l == 1) (first + row.0 * k + j)) k n row.2 in
    let is : first + row.0 * k + place.0 ≡ n = where_has (bit_at (x_to k g (row.0 + place.0)) l == 1) (first + row.0 * k + place.0) n place.2 in
    (omega (arith, is), omega (arith, is, place_below k row.0 place.0 row.1 place.1))

-- the exclusive or of the products that add to a bit, where the net of each product has the value of f at its places
pub added_parity : (bits : List Bool) (k g first l : ℕ) (f : ℕ → ℕ → ℕ) → ((i j : ℕ) → i < k → j < k → bit_at_net bits (first + i * k + j) ≡ f i j) → parity bits (added_products k g first l) ≡ sum_of_first k (λ i. sum_of_first k (λ j. f i j * bit_at (x_to k g (i + j)) l))
added_parity bits k g first l f have =
    gathered_parity bits (λ i. added_row k g (first + i * k) i l k) k
    ∙ same_sum k (λ i. parity bits (added_row k g (first + i * k) i l k)) (λ i. sum_of_first k (λ j. f i j * bit_at (x_to k g (i + j)) l)) row
  where
    one : (i j : ℕ) → i < k → j < k → parity bits (where_so (bit_at (x_to k g (i + j)) l == 1) (first + i * k + j)) ≡ f i j * bit_at (x_to k g (i + j)) l
    one i j low high =
        where_parity bits (bit_at (x_to k g (i + j)) l) (first + i * k + j) (bit_at-lt (x_to k g (i + j)) l) ∙ ap (λ n. n * bit_at (x_to k g (i + j)) l) (have i j low high)

    row : (i : ℕ) → i < k → parity bits (added_row k g (first + i * k) i l k) ≡ sum_of_first k (λ j. f i j * bit_at (x_to k g (i + j)) l)
    row i low =
        gathered_parity bits (λ j. where_so (bit_at (x_to k g (i + j)) l == 1) (first + i * k + j)) k
        ∙ same_sum k (λ j. parity bits (where_so (bit_at (x_to k g (i + j)) l == 1) (first + i * k + j))) (λ j. f i j * bit_at (x_to k g (i + j)) l) (λ j high. one i j low high)

module _ (outer k g : ℕ) (a b z : List ℕ) (few : k ≤ 64) (a_long : length a ≡ k) (b_long : length b ≡ k) (z_long : length z ≡ k) where
  start_next : (products k a b (begun outer)).next ≡ outer + k * k
  start_next = rows_next k k a b (begun outer)

  -- the exclusive or of the products that add to a bit
  list_parity : (bits : List Bool) (l : ℕ) → Agrees bits (products k a b (begun outer)) → parity bits (added_products k g outer l) ≡ sum_of_first k (λ i. sum_of_first k (λ j. bit_at (index_of bits a) i * bit_at (index_of bits b) j * bit_at (x_to k g (i + j)) l))
  list_parity bits l agrees =
      added_parity bits k g outer l (λ i j. bit_at (index_of bits a) i * bit_at (index_of bits b) j)
      (λ i j low high. product_value bits k a b (begun outer) i j agrees low high
      ∙ ap₂ (λ x y. x * y) (sym (index_bit bits a i (omega (arith, low, a_long)))) (sym (index_bit bits b j (omega (arith, high, b_long)))))

  -- the bits of z are those of the product
  pub mastrovito_product : (bits : List Bool) → IsRing k (product 1 k bit_mul g) → HasProductBits k g → Agrees bits (mastrovito_plan outer k g a b z) → index_of bits z ≡ product 1 k bit_mul g (index_of bits a) (index_of bits b)
  mastrovito_product bits ring by_bits agrees =
      let before : Agrees bits (products k a b (begun outer)) = chains_before k z (added_products k g outer) (products k a b (begun outer)) bits agrees in
      index_is bits z k (product 1 k bit_mul g (index_of bits a) (index_of bits b)) z_long (ring.closed (index_of bits a) (index_of bits b))
      (λ l less. chains_value k z (added_products k g outer) (products k a b (begun outer)) bits l agrees less
      ∙ (list_parity bits l before ∙ sym (by_bits (index_of bits a) (index_of bits b) l (omega (arith, index_small bits a, ap (λ n. 2 ^ n) a_long)) (omega (arith, index_small bits b, ap (λ n. 2 ^ n) b_long)))))

  -- the plan drives z from the factors
  pub mastrovito_made : (sources : List ℕ) → ((i : ℕ) → i < k → Has sources (slice_index a i)) → ((j : ℕ) → j < k → Has sources (slice_index b j)) → ((l : ℕ) → l < k → slice_index z l < outer) → IsWellMade outer sources z (mastrovito_plan outer k g a b z)
  mastrovito_made sources first second low =
      let P : List ℕ → Type 0 = λ targets. IsWellMade outer sources targets (mastrovito_plan outer k g a b z) in
      subst P (gathered_all z k z_long)
      (chains_made k z (added_products k g outer) (products k a b (begun outer)) outer sources
      (products_made outer sources [] k a b (begun outer) (begun_made outer sources) first second) low
      (λ l n less has. let place = added_has k g outer l n has in inr (place.0, omega (arith, place.1, start_next))))

  -- and has few nets
  pub mastrovito_few : (mastrovito_plan outer k g a b z).next ≤ outer + 270000
  mastrovito_few =
      omega (arith, chains_next k z (added_products k g outer) (products k a b (begun outer)) k 4097 (λ l less. omega (arith, products_few outer k g l few)), start_next, square_few k few, mul_few k 4097 64 4097 few (omega arith))
