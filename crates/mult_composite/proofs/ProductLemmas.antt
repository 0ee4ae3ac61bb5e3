-- The bits of the products of coefficients.
use Rattle.std.proofs.Math.Nat.{suc-mul, zero-mul}
use Rattle.std.proofs.Common.{◌≡◌, ℕ, suc, sym, ◌∙◌, ap, ap₂, ◌<◌, ◌≤◌, ◌+◌, ◌*◌, ◌/◌, ◌%◌, arith, List, length, length-append, Bool, None, Some}
use Rattle.std.specs.Prelude.{slice_get, slice_index}
use Rattle.std.specs.Int.{bit_at}
use Rattle.std.proofs.lemmas.Option.{slice_get_within}
use Rattle.std.proofs.lemmas.Nat.{div-mul-add, mod-mul-add, div_below, mod_below}
use Rattle.gf_field.specs.Bit.{bit_mul}
use Rattle.gf_field.specs.Modulus.{IsModulus}
use Rattle.gf_field.specs.Polynomial.{coefficient}
use Rattle.gf_field.specs.Quotient.{product}
use Rattle.gf_field.specs.laws.PackingLaws.{coefficient_below}
use Rattle.make_laws.proofs.ProductBitLemmas.{product_bits}
use Rattle.make_nets.specs.Plan.{Plan, with_chain, chain_net}
use Rattle.make_nets.specs.PlanValue.{Agrees, bit_at_net, parity}
use Rattle.make_nets.proofs.EachLemmas.{each_keeps}
use Rattle.make_nets.proofs.ValueLemmas.{chain_before, chain_value}
use Rattle.make_nets.specs.Row.{Row, begun_row, with_nets}
use Rattle.make_nets.proofs.RowLemmas.{HaveBits, IsRowOf, value_in_row, have_none, have_append, row_values, row_before}
use Rattle.mult_composite.specs.Composite.{coefficient_product, all_products, coefficient_nets}
use Rattle.mult_composite.proofs.PlaceLemmas.{coefficient_bit, place_below}
use Rattle.mult_gen.specs.Chains.{added_products, products as bit_products}
use Rattle.mult_gen.proofs.MastrovitoLemmas.{added_parity}
use Rattle.mult_gen.proofs.ProductLemmas.{product_value as product_of_bits, products_before}
use Rattle.mult_composite.proofs.ListLemmas.{coefficient_net}

-- bit p % n of the product of coefficients p / n / m of x and p / n % m of y
abbrev pub product_value : (n g m x y : ℕ) → ℕ → ℕ
product_value n g m x y p = bit_at (product 1 n bit_mul g (coefficient n x (p / n / m)) (coefficient n y (p / n % m))) (p % n)

module _ (bits : List Bool) (n g m x y : ℕ) (ok : IsModulus n g) (a b : List ℕ) (long_a : length a ≡ n * m) (long_b : length b ≡ n * m) (have_a : HaveBits bits a x) (have_b : HaveBits bits b y) where
  abbrev mul : ℕ → ℕ → ℕ
  mul = product 1 n bit_mul g

  bit_in : (nets : List ℕ) (v i l : ℕ) → length nets ≡ n * m → HaveBits bits nets v → i < m → l < n → bit_at_net bits (slice_index nets (n * i + l)) ≡ bit_at (coefficient n v i) l
  bit_in nets v i l long have hi hl =
      value_in_row bits nets (bit_at v) (n * i + l) have (omega (arith, place_below n m i l hi hl, long)) ∙ sym (coefficient_bit n v i l hl)

  -- the net of the product of two bits
  bit_product : (i j : ℕ) (plan : Plan) → i < m → j < m → Agrees bits (bit_products n (coefficient_nets n a i) (coefficient_nets n b j) plan) → (u v : ℕ) → u < n → v < n → bit_at_net bits (plan.next + u * n + v) ≡ bit_at (coefficient n x i) u * bit_at (coefficient n y j) v
  bit_product i j plan hi hj agrees u v hu hv =
      product_of_bits bits n (coefficient_nets n a i) (coefficient_nets n b j) plan u v agrees hu hv
      ∙ ap₂ (λ p q. bit_at_net bits p * bit_at_net bits q) (coefficient_net n m a i u hu) (coefficient_net n m b j v hv)
      ∙ ap₂ (λ p q. p * q) (bit_in a x i u long_a have_a hi hu) (bit_in b y j v long_b have_b hj hv)

  -- those that add to a bit
  bit_of_product : (i j l : ℕ) (plan : Plan) → i < m → j < m → Agrees bits (bit_products n (coefficient_nets n a i) (coefficient_nets n b j) plan) → parity bits (added_products n g plan.next l) ≡ bit_at (mul (coefficient n x i) (coefficient n y j)) l
  bit_of_product i j l plan hi hj agrees =
      added_parity bits n g plan.next l (λ u v. bit_at (coefficient n x i) u * bit_at (coefficient n y j) v) (bit_product i j plan hi hj agrees)
      ∙ sym (product_bits n g ok (coefficient n x i) (coefficient n y j) l (coefficient_below n x i) (coefficient_below n y j))

  product_values : (i j : ℕ) (plan : Plan) → i < m → j < m → Agrees bits (coefficient_product n g a b i j plan).plan → IsRowOf bits plan n (bit_at (mul (coefficient n x i) (coefficient n y j))) (coefficient_product n g a b i j plan)
  product_values i j plan hi hj agrees =
      let list : ℕ → List ℕ = λ l. added_products n g plan.next l in
      let start : Plan = bit_products n (coefficient_nets n a i) (coefficient_nets n b j) plan in
      let after : ℕ → Plan → Plan = λ l. with_chain None (added_products n g plan.next l) in
      let net : ℕ → Plan → ℕ = λ l p. chain_net None (added_products n g plan.next l) p in
      let before : (l : ℕ) (p : Plan) → Agrees bits (after l p) → Agrees bits p = λ l p. chain_before bits None (list l) p in
      let started = row_before bits after net n start before agrees in
      let values = row_values bits after net n start before (bit_at (mul (coefficient n x i) (coefficient n y j))) (λ l p less agrees. chain_value bits None (list l) p agrees ∙ bit_of_product i j l plan hi hj started) agrees in
      record { before = products_before bits n (coefficient_nets n a i) (coefficient_nets n b j) plan started; long = values.long; have = values.have }

  pub all_values : (plan : Plan) → 1 ≤ m → Agrees bits (all_products n g m a b plan).plan → IsRowOf bits plan (m * m * n) (product_value n g m x y) (all_products n g m a b plan)
  all_values plan some =
      each_keeps (λ q row. Agrees bits row.plan → IsRowOf bits plan (q * n) (product_value n g m x y) row) (λ q row. with_nets row.nets (coefficient_product n g a b (q / m) (q % m) row.plan)) (begun_row plan) (m * m)
      (λ agrees. record { before = agrees; long = sym (zero-mul n); have = have_none bits (product_value n g m x y) })
      (λ q row less kept agrees. more q row less kept (product_values (q / m) (q % m) row.plan (div_below q m m some less) (mod_below q m some) agrees))
    where
      more : (q : ℕ) (row : Row) → q < m * m → (Agrees bits row.plan → IsRowOf bits plan (q * n) (product_value n g m x y) row) → IsRowOf bits row.plan n (bit_at (mul (coefficient n x (q / m)) (coefficient n y (q % m)))) (coefficient_product n g a b (q / m) (q % m) row.plan) → IsRowOf bits plan (suc q * n) (product_value n g m x y) (with_nets row.nets (coefficient_product n g a b (q / m) (q % m) row.plan))
      more q row less kept is =
          let before = kept is.before in
          record {
            before = before.before;
            long = length-append row.nets (coefficient_product n g a b (q / m) (q % m) row.plan).nets ∙ ap₂ (λ u v. u + v) before.long is.long ∙ sym (suc-mul q n);
            have = have_append bits row.nets (coefficient_product n g a b (q / m) (q % m) row.plan).nets (product_value n g m x y) before.have (λ l net got. is.have l net got ∙ sym (later l (omega (arith, within l net got, is.long))));
          }
        where
          within : (l net : ℕ) → slice_get (coefficient_product n g a b (q / m) (q % m) row.plan).nets l ≡ Some net → l < length (coefficient_product n g a b (q / m) (q % m) row.plan).nets
          within l net got = slice_get_within (coefficient_product n g a b (q / m) (q % m) row.plan).nets l net got

          later : (l : ℕ) → l < n → (product_value n g m x y) (length row.nets + l) ≡ bit_at (mul (coefficient n x (q / m)) (coefficient n y (q % m))) l
          later l low =
              ap (λ k. (product_value n g m x y) (k + l)) (kept is.before).long
              ∙ ap₂ (λ u v. bit_at (mul (coefficient n x (u / m)) (coefficient n y (u % m))) v) (div-mul-add q n l low) (mod-mul-add q n l low)
