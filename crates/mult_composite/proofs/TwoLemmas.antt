-- Gates read at most two nets each.
use Rattle.std.proofs.Common.{ℕ, ◌*◌, ◌-◌, ◌/◌, ◌%◌, List, None, Some}
use Rattle.std.specs.Prelude.{slice_index}
use Rattle.make_nets.specs.Plan.{Plan, begun, chain_net, with_chain}
use Rattle.make_nets.specs.Row.{Row, begun_row, with_nets}
use Rattle.make_nets.specs.ShortPlan.{ReadTwo}
use Rattle.make_nets.proofs.EachLemmas.{each_keeps}
use Rattle.make_nets.proofs.TwoLemmas.{begun_two, chain_two, each_two, row_two}
use Rattle.mult_gen.specs.Chains.{added_products, products as bit_products}
use Rattle.mult_gen.proofs.ShortLemmas.{products_two}
use Rattle.mult_composite.specs.Composite.{added_pairs, added_sums, all_products, base_product, coefficient_nets, coefficient_product, composite_plan, pair_sums}

base_two : (n g : ℕ) (a b : List ℕ) (plan : Plan) → ReadTwo plan → ReadTwo (base_product n g a b plan).plan
base_two n g a b plan two =
    row_two n (λ l. with_chain None (added_products n g plan.next l)) (λ l so_far. chain_net None (added_products n g plan.next l) so_far) (bit_products n a b plan) (products_two n a b plan two)
    (λ l p. chain_two None (added_products n g plan.next l) p)

all_two : (n g m : ℕ) (a b : List ℕ) (plan : Plan) → ReadTwo plan → ReadTwo (all_products n g m a b plan).plan
all_two n g m a b plan two =
    each_keeps (λ q (row : Row). ReadTwo row.plan) (λ q row. with_nets row.nets (coefficient_product n g a b (q / m) (q % m) row.plan)) (begun_row plan) (m * m) two
    (λ q row less kept. base_two n g (coefficient_nets n a (q / m)) (coefficient_nets n b (q % m)) row.plan kept)

sums_two : (n m : ℕ) (products : Row) → ReadTwo products.plan → ReadTwo (pair_sums n m products).plan
sums_two n m products two =
    row_two ((2 * m - 1) * n) (λ p. with_chain None (added_pairs n m products.nets (p / n) (p % n))) (λ p so_far. chain_net None (added_pairs n m products.nets (p / n) (p % n)) so_far) products.plan two
    (λ p plan. chain_two None (added_pairs n m products.nets (p / n) (p % n)) plan)

-- the whole plan
pub composite_two : (outer n g m t : ℕ) (a b z : List ℕ) → ReadTwo (composite_plan outer n g m t a b z)
composite_two outer n g m t a b z =
    let products : Row = all_products n g m a b (begun outer) in
    let sums : Row = pair_sums n m products in
    each_two (m * n) (λ p. with_chain (Some (slice_index z p)) (added_sums n g m t sums.nets (p / n) (p % n))) sums.plan
    (sums_two n m products (all_two n g m a b (begun outer) (begun_two outer)))
    (λ p plan. chain_two (Some (slice_index z p)) (added_sums n g m t sums.nets (p / n) (p % n)) plan)
