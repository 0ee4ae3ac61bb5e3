-- The bits of the sums of products of coefficients, and those of the product.
use Rattle.std.proofs.Common.{◌≡◌, ℕ, suc, sym, ◌∙◌, ap, ap₂, ◌<◌, ◌≤◌, ◌^◌, ◌+◌, ◌*◌, ◌-◌, ◌/◌, ◌%◌, inl, inr, arith, List, length, Bool, None, Some}
use Rattle.std.proofs.Math.Nat.{add-mul}
use Rattle.std.specs.Prelude.{bit_xor, slice_index, ◌==◌, if◌then◌else◌}
use Rattle.std.specs.Int.{bit_at}
use Rattle.std.specs.Int.Bits.{xor_zero_r}
use Rattle.std.proofs.lemmas.Bool.{cases_lt}
use Rattle.std.proofs.lemmas.Nat.{div-mul-add, mod-mul-add, div-add-mod', div_below, mod_below}
use Rattle.std.proofs.lemmas.Nat.Bits.{bit_at-lt}
use Rattle.gf_field.proofs.SharedLemmas.{same_sum}
use Rattle.gf_field.specs.Bit.{bit_mul}
use Rattle.gf_field.specs.Modulus.{IsModulus}
use Rattle.gf_field.specs.Polynomial.{coefficient}
use Rattle.gf_field.specs.Quotient.{product}
use Rattle.make_laws.specs.TowerProduct.{HasTowerBits, adds_to, pair_bit, factor_bit}
use Rattle.make_laws.proofs.PairLemmas.{adds_cases}
use Rattle.make_nets.specs.Plan.{Plan, begun, with_chain, chain_net, where_so}
use Rattle.make_nets.specs.PlanValue.{Agrees, bit_at_net, parity}
use Rattle.make_nets.proofs.EachLemmas.{each_keeps}
use Rattle.make_nets.proofs.ValueLemmas.{chain_before, chain_value, gathered_parity, where_parity}
use Rattle.make_nets.specs.Row.{Row}
use Rattle.make_nets.proofs.RowLemmas.{HaveValues, HaveBits, IsRowOf, value_in_row, row_values, row_before}
use Rattle.mult_composite.specs.Composite.{all_products, added_pairs, pair_sums, added_sums, reduced_sums, composite_plan}
use Rattle.mult_composite.proofs.PlaceLemmas.{sum_flat, coefficient_bit, pair_place, place_is, sum_place}
use Rattle.mult_composite.proofs.ProductLemmas.{product_value, all_values}

module _ (bits : List Bool) (n g m x y : ℕ) (ok : IsModulus n g) where
  abbrev mul : ℕ → ℕ → ℕ
  mul = product 1 n bit_mul g

  module _ (products : List ℕ) (long : length products ≡ m * m * n) (have : HaveValues bits products (product_value n g m x y)) where
    product_at : (i j l : ℕ) → i < m → j < m → l < n → bit_at_net bits (slice_index products ((i * m + j) * n + l)) ≡ bit_at (mul (coefficient n x i) (coefficient n y j)) l
    product_at i j l hi hj hl =
        value_in_row bits products (product_value n g m x y) ((i * m + j) * n + l) have (omega (arith, pair_place n m i j l hi hj hl, long))
        ∙ ap₂ (λ u v. bit_at (mul (coefficient n x (u / m)) (coefficient n y (u % m))) v) (div-mul-add (i * m + j) n l hl) (mod-mul-add (i * m + j) n l hl)
        ∙ ap₂ (λ u v. bit_at (mul (coefficient n x u) (coefficient n y v)) l) (div-mul-add i m j hj) (mod-mul-add i m j hj)

    -- the pairs with a sum
    pairs_parity : (d l : ℕ) → l < n → parity bits (added_pairs n m products d l) ≡ pair_bit n g m x y d l
    pairs_parity d l hl =
        gathered_parity bits (λ i. where_so (adds_to m d i) (slice_index products ((i * m + (d - i)) * n + l))) m
        ∙ same_sum m (λ i. parity bits (where_so (adds_to m d i) (slice_index products ((i * m + (d - i)) * n + l)))) (λ i. if adds_to m d i then bit_at (mul (coefficient n x i) (coefficient n y (d - i))) l else 0) (λ i less. elim (adds_cases m d i) [
          | inl in_sum ↦
              let low : d - i < m = omega (arith, in_sum.1, in_sum.2) in
              ap (λ t. parity bits (where_so t (slice_index products ((i * m + (d - i)) * n + l)))) in_sum.0
              ∙ xor_zero_r (bit_at_net bits (slice_index products ((i * m + (d - i)) * n + l)))
              ∙ product_at i (d - i) l less low hl
              ∙ sym (ap (λ t. if t then bit_at (mul (coefficient n x i) (coefficient n y (d - i))) l else 0) in_sum.0)
          | inr out ↦
              ap (λ t. parity bits (where_so t (slice_index products ((i * m + (d - i)) * n + l)))) out.0
              ∙ sym (ap (λ t. if t then bit_at (mul (coefficient n x i) (coefficient n y (d - i))) l else 0) out.0)
        ])

  -- bit p % n of the sum for p / n
  abbrev sum_value : ℕ → ℕ
  sum_value p = pair_bit n g m x y (p / n) (p % n)

  sums_before : (products : Row) → Agrees bits (pair_sums n m products).plan → Agrees bits products.plan
  sums_before products = row_before bits (λ p. with_chain None (added_pairs n m products.nets (p / n) (p % n))) (λ p so_far. chain_net None (added_pairs n m products.nets (p / n) (p % n)) so_far) ((2 * m - 1) * n) products.plan (λ p plan. chain_before bits None (added_pairs n m products.nets (p / n) (p % n)) plan)

  sums_values : (products : Row) → length products.nets ≡ m * m * n → HaveValues bits products.nets (product_value n g m x y) → Agrees bits (pair_sums n m products).plan → IsRowOf bits products.plan ((2 * m - 1) * n) sum_value (pair_sums n m products)
  sums_values products long have =
      row_values bits (λ p. with_chain None (added_pairs n m products.nets (p / n) (p % n))) (λ p so_far. chain_net None (added_pairs n m products.nets (p / n) (p % n)) so_far) ((2 * m - 1) * n) products.plan (λ p plan. chain_before bits None (added_pairs n m products.nets (p / n) (p % n)) plan) sum_value
      (λ p plan less agrees. chain_value bits None (added_pairs n m products.nets (p / n) (p % n)) plan agrees ∙ pairs_parity products.nets long have (p / n) (p % n) (mod_below p n ok.some))

  module _ (t : ℕ) (tower : HasTowerBits n g m t) (some : 2 ≤ m) (x_below : x < 2 ^ (n * m)) (y_below : y < 2 ^ (n * m)) where
    abbrev mul_tower : ℕ → ℕ → ℕ
    mul_tower = product n m mul t

    module _ (sums : List ℕ) (long : length sums ≡ (2 * m - 1) * n) (have : HaveValues bits sums sum_value) where
      sum_at : (d l : ℕ) → d < 2 * m - 1 → l < n → bit_at_net bits (slice_index sums (d * n + l)) ≡ pair_bit n g m x y d l
      sum_at d l hd hl =
          value_in_row bits sums sum_value (d * n + l) have (omega (arith, sum_place n (2 * m - 1) d l hd hl, long))
          ∙ ap₂ (λ u v. pair_bit n g m x y u v) (div-mul-add d n l hl) (mod-mul-add d n l hl)

      high_at : (q : ℕ) → q < (m - 1) * n → bit_at_net bits (slice_index sums (m * n + q)) ≡ pair_bit n g m x y (m + q / n) (q % n)
      high_at q less =
          ap (λ p. bit_at_net bits (slice_index sums p)) (same)
          ∙ sum_at (m + q / n) (q % n) (omega (arith, div_below q n (m - 1) ok.some less, some)) (mod_below q n ok.some)
        where
          same : m * n + q ≡ (m + q / n) * n + q % n
          same = omega (arith, add-mul m (q / n) n, div-add-mod' q n)

      -- what adds to a bit of the product
      added_parity : (e l : ℕ) → e < m → l < n → parity bits (added_sums n g m t sums e l) ≡ bit_at (coefficient n (mul_tower x y) e) l
      added_parity e l he hl =
          ap₂ bit_xor (sum_at e l (omega (arith, he, some)) hl)
          (gathered_parity bits (λ q. where_so (factor_bit n g m t (m + q / n) e (q % n) l == 1) (slice_index sums (m * n + q))) ((m - 1) * n)
          ∙ same_sum ((m - 1) * n) (λ q. parity bits (where_so (factor_bit n g m t (m + q / n) e (q % n) l == 1) (slice_index sums (m * n + q)))) (λ q. pair_bit n g m x y (m + q / n) (q % n) * factor_bit n g m t (m + q / n) e (q % n) l)
          (λ q less. where_parity bits (factor_bit n g m t (m + q / n) e (q % n) l) (slice_index sums (m * n + q)) (factor_below q e l) ∙ ap (λ v. v * factor_bit n g m t (m + q / n) e (q % n) l) (high_at q less))
          ∙ sum_flat (m - 1) n (λ i s. pair_bit n g m x y (m + i) s * factor_bit n g m t (m + i) e s l))
          ∙ sym (tower x y e l x_below y_below he)
        where
          factor_below : (q e l : ℕ) → factor_bit n g m t (m + q / n) e (q % n) l < 2
          factor_below q e l = bit_at-lt _ l

    reduced_values : (z : List ℕ) (before : Plan) (sums : Row) → (Agrees bits sums.plan → IsRowOf bits before ((2 * m - 1) * n) sum_value sums) → Agrees bits (reduced_sums n g m t z sums) → (p : ℕ) → p < m * n → bit_at_net bits (slice_index z p) ≡ bit_at (mul_tower x y) p
    reduced_values z start sums is agrees =
        let all = each_keeps (λ q plan. Agrees bits plan → Agrees bits sums.plan × ((p : ℕ) → p < q → bit_at_net bits (slice_index z p) ≡ bit_at (mul_tower x y) p)) (λ p. with_chain (Some (slice_index z p)) (added_sums n g m t sums.nets (p / n) (p % n))) sums.plan (m * n)
        (λ agrees. (agrees, λ p less. absurd (omega (arith, less))))
        (λ q plan less kept agrees. more q plan less (kept (chain_before bits (Some (slice_index z q)) (added_sums n g m t sums.nets (q / n) (q % n)) plan agrees)) (chain_value bits (Some (slice_index z q)) (added_sums n g m t sums.nets (q / n) (q % n)) plan agrees)) in
        (all agrees).1
      where
        more : (q : ℕ) (plan : Plan) → q < m * n → Agrees bits sums.plan × ((p : ℕ) → p < q → bit_at_net bits (slice_index z p) ≡ bit_at (mul_tower x y) p) → bit_at_net bits (slice_index z q) ≡ parity bits (added_sums n g m t sums.nets (q / n) (q % n)) → Agrees bits sums.plan × ((p : ℕ) → p < suc q → bit_at_net bits (slice_index z p) ≡ bit_at (mul_tower x y) p)
        more q plan less before here = (
          before.0,
          λ p below. elim (cases_lt p q) [
            | inl earlier ↦ before.1 p earlier
            | inr last ↦
                let same : p ≡ q = omega (arith, below, last) in
                ap (λ r. bit_at_net bits (slice_index z r)) same
                ∙ here
                ∙ added_parity sums.nets (is before.0).long (is before.0).have (q / n) (q % n) (div_below q n m ok.some less) (mod_below q n ok.some)
                ∙ coefficient_bit n (mul_tower x y) (q / n) (q % n) (mod_below q n ok.some)
                ∙ ap (bit_at (mul_tower x y)) (place_is n q ∙ sym same)
          ],
        )

    -- Place p of the product has its bit.
    pub composite_bits : (outer : ℕ) (a b z : List ℕ) → length a ≡ n * m → length b ≡ n * m → HaveBits bits a x → HaveBits bits b y → Agrees bits (composite_plan outer n g m t a b z) → (p : ℕ) → p < m * n → bit_at_net bits (slice_index z p) ≡ bit_at (mul_tower x y) p
    composite_bits outer a b z long_a long_b have_a have_b agrees =
        let products : Row = all_products n g m a b (begun outer) in
        let sums : Row = pair_sums n m products in
        reduced_values z products.plan sums (λ sums_agree.
        let all = all_values bits n g m x y ok a b long_a long_b have_a have_b (begun outer) (omega (arith, some)) (sums_before products sums_agree) in
        sums_values products all.long all.have sums_agree) agrees
