-- What the nets of products and of sums have in bits that agree with the gates.
use Rattle.std.proofs.Common.{◌≡◌, ◌⊎◌, ◌∙◌, ap, ap₂, sym, refl, inl, inr, ℕ, zero, suc, ◌<◌, ◌+◌, ◌*◌, mul-suc, Bool, true, false, cond, List, [], ◌∷◌, ◌++◌, length, None, arith}
use Rattle.std.specs.Prelude.{bit_xor, ◌==◌, ◌&&◌}
use Rattle.std.specs.Int.{bit_at}
use Rattle.std.proofs.lemmas.List.{get_or_append_left, get_or_push, length_push}
use Rattle.std.proofs.lemmas.Nat.Bits.{bit_at-lt}
use Rattle.lists.specs.laws.NumberLaws.{nat_eq_or}
use Rattle.gf_field.proofs.SharedLemmas.{same_sum}
use Rattle.gf_field.specs.Polynomial.{sum_of_first}
use Rattle.gf_field.specs.Power.{power}
use Rattle.net_core.specs.Value.{bit_of}
use Rattle.make_nets.specs.Plan.{Plan, begun, each, gathered, where_so, with_and, chain_net}
use Rattle.make_nets.specs.PlanValue.{Agrees, bit_at_net, parity}
use Rattle.make_nets.proofs.ValueLemmas.{agrees_before, and_value, chain_before, chain_value, parity_append, gathered_parity, where_parity}
use Rattle.make_laws.specs.Chosen.{chosen}
use Rattle.make_laws.specs.DigitRegisters.{digit_step_sum}
use Rattle.make_laws.specs.Held.{bit_at_place, net_at}
use Rattle.mult_digit.specs.DigitPlan.{Sums, products_from, summands, sums_from, with_row, with_sum}
use Rattle.mult_digit.specs.private.ProductNets.{product_net}
use Rattle.mult_normal.proofs.ProductLemmas.{one_bit}

-- a place below the next one is below the last, or it
below_or_last : (j m : ℕ) → j < suc m → (j < m) ⊎ (j ≡ m)
below_or_last j m less = elim (nat_eq_or j m) [
  | inl is ↦ inr is
  | inr other ↦ inl (omega (arith, less, other))
]

times_bit : (x : Bool) (c : ℕ) → ◌≡◌ {A = ℕ} (cond x 1 0 * c) (chosen x c)
times_bit true c = omega arith
times_bit false c = omega arith

times_bits : (x y : Bool) (c : ℕ) → ◌≡◌ {A = ℕ} (cond x 1 0 * cond y 1 0 * c) (chosen (x && y) c)
times_bits true true c = omega arith
times_bits true false c = omega arith
times_bits false true c = omega arith
times_bits false false c = omega arith

module _ (k : ℕ) (d b : List ℕ) where
  abbrev product : ℕ → ℕ → Plan → Plan
  product e j = with_and None (net_at d e) (net_at b j)

  row_next : (e m : ℕ) (plan : Plan) → (each m (product e) plan).next ≡ plan.next + m
  row_next e zero plan = omega arith
  row_next e (suc m) plan = omega (arith, row_next e m plan)

  pub rows_next : (n m : ℕ) → (each m (with_row k d b) (begun n)).next ≡ n + k * m
  rows_next n zero = omega arith
  rows_next n (suc m) = row_next m k (each m (with_row k d b) (begun n)) ∙ omega (arith, rows_next n m, mul-suc k m)

  module _ (bits : List Bool) where
    row_values : (e m : ℕ) (plan : Plan) → Agrees bits (each m (product e) plan) → Agrees bits plan × ((j : ℕ) → j < m → bit_at_net bits (plan.next + j) ≡ bit_at_net bits (net_at d e) * bit_at_net bits (net_at b j))
    row_values e zero plan agrees = (agrees, λ j less. absurd (omega arith))
    row_values e (suc m) plan agrees =
        let rest = row_values e m plan (agrees_before bits None (net_at d e ∷ net_at b m ∷ []) 8 (each m (product e) plan) agrees) in
        (rest.0, λ j less. by rest.1 j (below_or_last j m less))
      where
        by : ((j : ℕ) → j < m → bit_at_net bits (plan.next + j) ≡ bit_at_net bits (net_at d e) * bit_at_net bits (net_at b j)) → (j : ℕ) → (j < m) ⊎ (j ≡ m) → bit_at_net bits (plan.next + j) ≡ bit_at_net bits (net_at d e) * bit_at_net bits (net_at b j)
        by rest j (inl less) = rest j less
        by rest j (inr is) =
            ap (λ i. bit_at_net bits (plan.next + i)) is
            ∙ (ap (bit_at_net bits) (sym (row_next e m plan))
            ∙ (and_value bits None (net_at d e) (net_at b m) (each m (product e) plan) agrees
            ∙ ap (λ i. bit_at_net bits (net_at d e) * bit_at_net bits (net_at b i)) (sym is)))

    pub product_values : (n m : ℕ) → Agrees bits (each m (with_row k d b) (begun n)) → (e j : ℕ) → e < m → j < k → bit_at_net bits (product_net n k e j) ≡ bit_at_net bits (net_at d e) * bit_at_net bits (net_at b j)
    product_values n zero agrees e j within less = absurd (omega arith)
    product_values n (suc m) agrees e j within less =
        let row = row_values m k (each m (with_row k d b) (begun n)) agrees in
        elim (below_or_last e m within) [
          | inl before ↦ product_values n m row.0 e j before less
          | inr is ↦
              ap (λ i. bit_at_net bits (product_net n k i j)) is
              ∙ (ap (λ v. bit_at_net bits (v + j)) (sym (rows_next n m))
              ∙ (row.1 j less ∙ ap (λ i. bit_at_net bits (net_at d i) * bit_at_net bits (net_at b j)) (sym is)))
        ]

-- chains of lists, one after the other
module _ (list : ℕ → List ℕ) (plan : Plan) where
  abbrev chains : ℕ → Sums
  chains m = each m (λ l. with_sum (list l)) (record { plan = plan; nets = [] })

  pub sums_length : (m : ℕ) → length (chains m).nets ≡ m
  sums_length zero = refl
  sums_length (suc m) = length_push (chains m).nets (chain_net None (list m) (chains m).plan) ∙ (ap (λ n. n + 1) (sums_length m) ∙ omega arith)

  pub sum_values : (bits : List Bool) (m : ℕ) → Agrees bits (chains m).plan → Agrees bits plan × ((l : ℕ) → l < m → bit_at_net bits (net_at (chains m).nets l) ≡ parity bits (list l))
  sum_values bits zero agrees = (agrees, λ l less. absurd (omega arith))
  sum_values bits (suc m) agrees =
      let rest = sum_values bits m (chain_before bits None (list m) (chains m).plan agrees) in
      (rest.0, λ l less. by rest.1 l (below_or_last l m less))
    where
      by : ((l : ℕ) → l < m → bit_at_net bits (net_at (chains m).nets l) ≡ parity bits (list l)) → (l : ℕ) → (l < m) ⊎ (l ≡ m) → bit_at_net bits (net_at ((chains m).nets ++ chain_net None (list m) (chains m).plan ∷ []) l) ≡ parity bits (list l)
      by rest l (inl less) =
          ap (bit_at_net bits) (get_or_append_left (chains m).nets (chain_net None (list m) (chains m).plan ∷ []) 0 l (omega (arith, sums_length m)))
          ∙ rest l less
      by rest l (inr is) =
          ap (bit_at_net bits) (get_or_push (chains m).nets (chain_net None (list m) (chains m).plan) 0 l (sums_length m ∙ sym is))
          ∙ (chain_value bits None (list m) (chains m).plan agrees ∙ ap (λ i. parity bits (list i)) (sym is))

-- the net of a sum has the sum that the product takes
module _ (bits : List Bool) (n k : ℕ) (mul : ℕ → ℕ → ℕ) (x : ℕ) (d b z : List ℕ) (agrees : Agrees bits (sums_from n k mul x d b z).plan) where
  -- of the powers of x
  abbrev bit : ℕ → ℕ → ℕ
  bit i l = bit_at (power mul x i) l

  values : Agrees bits (products_from n k d b) × ((l : ℕ) → l < k → bit_at_net bits (net_at (sums_from n k mul x d b z).nets l) ≡ parity bits (summands n k mul x (length d) z l))
  values = sum_values (summands n k mul x (length d) z) (products_from n k d b) bits k agrees

  register_sum : (l : ℕ) → parity bits (gathered k (λ i. where_so (bit (i + length d) l == 1) (net_at z i))) ≡ sum_of_first k (λ i. chosen (bit_at_place bits z i) (bit (i + length d) l))
  register_sum l =
      gathered_parity bits (λ i. where_so (bit (i + length d) l == 1) (net_at z i)) k
      ∙ same_sum k (λ i. parity bits (where_so (bit (i + length d) l == 1) (net_at z i))) (λ i. chosen (bit_at_place bits z i) (bit (i + length d) l))
      (λ i less. where_parity bits (bit (i + length d) l) (net_at z i) (bit_at-lt (power mul x (i + length d)) l) ∙ times_bit (bit_of bits (net_at z i)) (bit (i + length d) l))

  one_product : (l e j : ℕ) → e < length d → j < k → parity bits (where_so (bit (e + j) l == 1) (product_net n k e j)) ≡ chosen (bit_at_place bits d e && bit_at_place bits b j) (bit (e + j) l)
  one_product l e j within less =
      where_parity bits (bit (e + j) l) (product_net n k e j) (bit_at-lt (power mul x (e + j)) l)
      ∙ (ap (λ v. v * bit (e + j) l) (product_values k d b bits n (length d) values.0 e j within less)
      ∙ times_bits (bit_of bits (net_at d e)) (bit_of bits (net_at b j)) (bit (e + j) l))

  product_sum : (l : ℕ) → parity bits (gathered (length d) (λ e. gathered k (λ j. where_so (bit (e + j) l == 1) (product_net n k e j)))) ≡ sum_of_first (length d) (λ e. sum_of_first k (λ j. chosen (bit_at_place bits d e && bit_at_place bits b j) (bit (e + j) l)))
  product_sum l =
      gathered_parity bits (λ e. gathered k (λ j. where_so (bit (e + j) l == 1) (product_net n k e j))) (length d)
      ∙ same_sum (length d) (λ e. parity bits (gathered k (λ j. where_so (bit (e + j) l == 1) (product_net n k e j)))) (λ e. sum_of_first k (λ j. chosen (bit_at_place bits d e && bit_at_place bits b j) (bit (e + j) l)))
      (λ e within. gathered_parity bits (λ j. where_so (bit (e + j) l == 1) (product_net n k e j)) k
      ∙ same_sum k (λ j. parity bits (where_so (bit (e + j) l == 1) (product_net n k e j))) (λ j. chosen (bit_at_place bits d e && bit_at_place bits b j) (bit (e + j) l))
      (λ j less. one_product l e j within less))

  pub sum_is : (l : ℕ) → l < k → chosen (bit_at_place bits (sums_from n k mul x d b z).nets l) 1 ≡ digit_step_sum k mul x (length d) (bit_at_place bits z) (bit_at_place bits d) (bit_at_place bits b) l
  sum_is l less =
      one_bit (bit_of bits (net_at (sums_from n k mul x d b z).nets l))
      ∙ (values.1 l less
      ∙ (parity_append bits (gathered k (λ i. where_so (bit (i + length d) l == 1) (net_at z i))) (gathered (length d) (λ e. gathered k (λ j. where_so (bit (e + j) l == 1) (product_net n k e j))))
      ∙ ap₂ bit_xor (register_sum l) (product_sum l)))
