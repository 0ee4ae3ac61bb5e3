-- What the nets of products and of their sum have in bits that agree with the gates.
use Rattle.std.proofs.Common.{◌≡◌, ◌∙◌, ap, sym, refl, ℕ, zero, suc, ◌<◌, ◌*◌, Bool, true, false, cond, List, [], ◌∷◌, None, arith}
use Rattle.std.specs.Prelude.{bit_xor, ◌==◌, ◌&&◌}
use Rattle.std.specs.Int.Bits.{xor_assoc, xor_zero_l, xor_zero_r}
use Rattle.gf_field.proofs.SharedLemmas.{same_sum}
use Rattle.gf_field.specs.Polynomial.{sum_of_first}
use Rattle.net_core.specs.Value.{bit_of}
use Rattle.make_nets.specs.Plan.{begun, each}
use Rattle.make_nets.specs.PlanValue.{Agrees, bit_at_net, parity}
use Rattle.make_nets.proofs.ValueLemmas.{agrees_before, and_value, chain_before, chain_value, parity_append}
use Rattle.make_laws.specs.Chosen.{chosen}
use Rattle.make_laws.specs.Held.{net_at}
use Rattle.mult_normal.specs.NormalPlan.{Products, products_from, sum_net, summed, with_product, with_row}

module _ (bits : List Bool) where
  -- the bit of one more product
  abbrev counted : Bool → ℕ → ℕ → ℕ
  counted counts a b = cond counts (bit_at_net bits a * bit_at_net bits b) 0

  -- from gates before to gates after, whose products add so much
  abbrev Adds : Products → Products → ℕ → Type 0
  Adds before after sum = Agrees bits after.plan → Agrees bits before.plan × (parity bits after.nets ≡ bit_xor (parity bits before.nets) sum)

  product_adds : (counts : Bool) (a b : ℕ) (s : Products) → Adds s (with_product counts a b s) (counted counts a b)
  product_adds false a b s agrees = (agrees, sym (xor_zero_r (parity bits s.nets)))
  product_adds true a b s agrees = (
    agrees_before bits None (a ∷ b ∷ []) 8 s.plan agrees,
    parity_append bits s.nets (s.plan.next ∷ []) ∙ ap (bit_xor (parity bits s.nets)) (xor_zero_r (bit_at_net bits s.plan.next) ∙ and_value bits None a b s.plan agrees),
  )

  -- steps that add something each add the sum
  steps_add : (step : ℕ → Products → Products) (adds : ℕ → ℕ) → ((i : ℕ) (s : Products) → Adds s (step i s) (adds i)) → (n : ℕ) (s : Products) → Adds s (each n step s) (sum_of_first n adds)
  steps_add step adds one zero s agrees = (agrees, sym (xor_zero_r (parity bits s.nets)))
  steps_add step adds one (suc n) s agrees =
      let here = one n (each n step s) agrees in
      let rest = steps_add step adds one n s here.0 in
      (rest.0, here.1 ∙ (ap (λ x. bit_xor x (adds n)) rest.1 ∙ xor_assoc (parity bits s.nets) (sum_of_first n adds) (adds n)))

  module _ (k : ℕ) (counts : ℕ → ℕ → Bool) (a b : List ℕ) where
    row_adds : (i : ℕ) (s : Products) → Adds s (with_row k counts a b i s) (sum_of_first k (λ j. counted (counts i j) (net_at a i) (net_at b j)))
    row_adds i s = steps_add (λ j. with_product (counts i j) (net_at a i) (net_at b j)) (λ j. counted (counts i j) (net_at a i) (net_at b j)) (λ j r. product_adds (counts i j) (net_at a i) (net_at b j) r) k s

    pub sum_value : (n : ℕ) → Agrees bits (summed (products_from n k counts a b)) → bit_at_net bits (sum_net (products_from n k counts a b)) ≡ sum_of_first k (λ i. sum_of_first k (λ j. cond (counts i j) (bit_at_net bits (net_at a i) * bit_at_net bits (net_at b j)) 0))
    sum_value n agrees =
        chain_value bits None (products_from n k counts a b).nets (products_from n k counts a b).plan agrees
        ∙ ((steps_add (with_row k counts a b) (λ i. sum_of_first k (λ j. counted (counts i j) (net_at a i) (net_at b j))) row_adds k (record { plan = begun n; nets = [] })
        (chain_before bits None (products_from n k counts a b).nets (products_from n k counts a b).plan agrees)).1
        ∙ xor_zero_l (sum_of_first k (λ i. sum_of_first k (λ j. counted (counts i j) (net_at a i) (net_at b j)))))

-- a product that a bit chooses
pub chosen_product : (x y : Bool) (c : ℕ) → c < 2 → ◌≡◌ {A = ℕ} (cond (c == 1) (cond x 1 0 * cond y 1 0) 0) (chosen (x && y) c)
chosen_product true true zero low = refl
chosen_product true false zero low = refl
chosen_product false true zero low = refl
chosen_product false false zero low = refl
chosen_product true true (suc zero) low = refl
chosen_product true false (suc zero) low = refl
chosen_product false true (suc zero) low = refl
chosen_product false false (suc zero) low = refl
chosen_product x y (suc (suc c)) low = absurd (omega arith)

-- the bit of a net as a number
pub one_bit : (x : Bool) → ◌≡◌ {A = ℕ} (chosen x 1) (cond x 1 0)
one_bit true = refl
one_bit false = refl

-- the net of the sum has the sum of the products that count
pub sum_is : (bits : List Bool) (k n : ℕ) (choice : ℕ → ℕ → ℕ) (a b : List ℕ) → ((i j : ℕ) → choice i j < 2) → Agrees bits (summed (products_from n k (λ i j. choice i j == 1) a b))
    → chosen (bit_of bits (sum_net (products_from n k (λ i j. choice i j == 1) a b))) 1 ≡ sum_of_first k (λ i. sum_of_first k (λ j. chosen (bit_of bits (net_at a i) && bit_of bits (net_at b j)) (choice i j)))
sum_is bits k n choice a b low agrees =
    one_bit (bit_of bits (sum_net (products_from n k (λ i j. choice i j == 1) a b)))
    ∙ (sum_value bits k (λ i j. choice i j == 1) a b n agrees
    ∙ same_sum k (λ i. sum_of_first k (λ j. cond (choice i j == 1) (bit_at_net bits (net_at a i) * bit_at_net bits (net_at b j)) 0))
    (λ i. sum_of_first k (λ j. chosen (bit_of bits (net_at a i) && bit_of bits (net_at b j)) (choice i j)))
    (λ i less. same_sum k (λ j. cond (choice i j == 1) (bit_at_net bits (net_at a i) * bit_at_net bits (net_at b j)) 0)
    (λ j. chosen (bit_of bits (net_at a i) && bit_of bits (net_at b j)) (choice i j))
    (λ j less'. chosen_product (bit_of bits (net_at a i)) (bit_of bits (net_at b j)) (choice i j) (low i j))))
