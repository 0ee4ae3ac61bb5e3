-- The products of the bits of two words.
use Rattle.std.proofs.Common.{◌≡◌, ◌∙◌, ap, sym, inl, ℕ, zero, suc, ◌<◌, ◌+◌, ◌*◌, Bool, List, [], ◌∷◌, None, arith}
use Rattle.std.specs.Prelude.{slice_index}
use Rattle.std.proofs.Math.Nat.{suc-mul}
use Rattle.lists.specs.Lists.{Has}
use Rattle.make_nets.specs.Plan.{Plan, each, with_and}
use Rattle.make_nets.specs.PlanShape.{IsWellMade}
use Rattle.make_nets.specs.PlanValue.{Agrees, bit_at_net}
use Rattle.make_nets.proofs.EachLemmas.{agrees_each, each_keeps}
use Rattle.make_nets.proofs.ShapeLemmas.{and_made}
use Rattle.make_nets.proofs.ValueLemmas.{agrees_before, and_value}
use Rattle.mult_gen.specs.Chains.{product_row, products}

pub row_next : (n x : ℕ) (b : List ℕ) (plan : Plan) → (product_row n x b plan).next ≡ plan.next + n
row_next zero x b plan = omega arith
row_next (suc n) x b plan = omega (arith, row_next n x b plan)

pub rows_next : (n k : ℕ) (a b : List ℕ) (plan : Plan) → (each n (λ i. product_row k (slice_index a i) b) plan).next ≡ plan.next + n * k
rows_next zero k a b plan = omega arith
rows_next (suc n) k a b plan = omega (arith, rows_next n k a b plan, row_next k (slice_index a n) b (each n (λ i. product_row k (slice_index a i) b) plan), suc-mul n k)

row_before : (bits : List Bool) (n x : ℕ) (b : List ℕ) (plan : Plan) → Agrees bits (product_row n x b plan) → Agrees bits plan
row_before bits n x b plan = agrees_each bits (λ j. with_and None x (slice_index b j)) plan 0 n (λ j p. agrees_before bits None (x ∷ slice_index b j ∷ []) 8 p) (omega arith)

row_value : (bits : List Bool) (n x : ℕ) (b : List ℕ) (plan : Plan) (j : ℕ) → Agrees bits (product_row n x b plan) → j < n → bit_at_net bits (plan.next + j) ≡ bit_at_net bits x * bit_at_net bits (slice_index b j)
row_value bits n x b plan j agrees less =
    let there : Agrees bits (with_and None x (slice_index b j) (product_row j x b plan)) = agrees_each bits (λ j. with_and None x (slice_index b j)) plan (suc j) n (λ j p. agrees_before bits None (x ∷ slice_index b j ∷ []) 8 p) less agrees in
    ap (bit_at_net bits) (sym (row_next j x b plan)) ∙ and_value bits None x (slice_index b j) (product_row j x b plan) there

pub products_before : (bits : List Bool) (k : ℕ) (a b : List ℕ) (plan : Plan) → Agrees bits (products k a b plan) → Agrees bits plan
products_before bits k a b plan = agrees_each bits (λ i. product_row k (slice_index a i) b) plan 0 k (λ i p. row_before bits k (slice_index a i) b p) (omega arith)

-- the net of each product has the product of both bits
pub product_value : (bits : List Bool) (k : ℕ) (a b : List ℕ) (plan : Plan) (i j : ℕ) → Agrees bits (products k a b plan) → i < k → j < k → bit_at_net bits (plan.next + i * k + j) ≡ bit_at_net bits (slice_index a i) * bit_at_net bits (slice_index b j)
product_value bits k a b plan i j agrees low high =
    let there : Agrees bits (product_row k (slice_index a i) b (each i (λ i. product_row k (slice_index a i) b) plan)) = agrees_each bits (λ i. product_row k (slice_index a i) b) plan (suc i) k (λ i p. row_before bits k (slice_index a i) b p) low agrees in
    ap (λ n. bit_at_net bits (n + j)) (sym (rows_next i k a b plan)) ∙ row_value bits k (slice_index a i) b (each i (λ i. product_row k (slice_index a i) b) plan) j there high

row_made : (outer : ℕ) (sources targets : List ℕ) (n x : ℕ) (b : List ℕ) (plan : Plan) → IsWellMade outer sources targets plan → Has sources x → ((j : ℕ) → j < n → Has sources (slice_index b j)) → IsWellMade outer sources targets (product_row n x b plan)
row_made outer sources targets n x b plan made first others =
    each_keeps (λ j p. IsWellMade outer sources targets p) (λ j. with_and None x (slice_index b j)) plan n made
    (λ j p less m. and_made outer sources targets None x (slice_index b j) p m tt (inl first) (inl (others j less)))

-- the products drive inner nets alone
pub products_made : (outer : ℕ) (sources targets : List ℕ) (k : ℕ) (a b : List ℕ) (plan : Plan) → IsWellMade outer sources targets plan → ((i : ℕ) → i < k → Has sources (slice_index a i)) → ((j : ℕ) → j < k → Has sources (slice_index b j)) → IsWellMade outer sources targets (products k a b plan)
products_made outer sources targets k a b plan made first second =
    each_keeps (λ i p. IsWellMade outer sources targets p) (λ i. product_row k (slice_index a i) b) plan k made
    (λ i p less m. row_made outer sources targets k (slice_index a i) b p m (first i less) second)
