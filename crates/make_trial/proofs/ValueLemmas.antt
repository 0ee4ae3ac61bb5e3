-- The bits of the nets of a multiplier with one bit of one table turned over.
use Rattle.std.proofs.Common.{◌≡◌, ◌∙◌, ap, sym, refl, inl, inr, ℕ, zero, suc, ◌<◌, ◌+◌, ◌*◌, ◌^◌, Bool, true, false, cond, List, ◌++◌, length, Some, arith}
use Rattle.std.specs.Prelude.{bit_xor, slice_get, slice_index, ◌==◌}
use Rattle.std.specs.Int.{bit_at}
use Rattle.std.specs.Int.Bits.{xor_zero_r}
use Rattle.lists.specs.Lists.{Has}
use Rattle.lists.specs.laws.NumberLaws.{nat_eq_or}
use Rattle.lists.specs.laws.ReadLaws.{get_front, get_back}
use Rattle.lists.specs.laws.TestLaws.{chosen_other, chosen_equal}
use Rattle.make_nets.proofs.ValueLemmas.{and_bits}
use Rattle.net_core.specs.GateValue.{GateValue}
use Rattle.net_core.specs.Turned.{turned_gate, turned_gates}
use Rattle.net_core.specs.Value.{bit_of, IsRight}
use Rattle.make_nets.specs.Plan.{begun}
use Rattle.make_nets.specs.PlanValue.{Agrees, bit_at_net}
use Rattle.mult_gen.specs.Chains.{added_products, chains, mastrovito_plan, products}
use Rattle.make_trial.proofs.PlaceLemmas.{and_gate, product_at, products_long, turned_here, turned_other}
use Rattle.make_trial.proofs.ShiftLemmas.{chains_gates}

-- the table of a product with one bit turned over
turned_bits : (index : ℕ) (x y z : Bool) → index < 4 → z ≡ (bit_at (bit_xor 8 (2 ^ index)) (cond x 1 0 + 2 * (cond y 1 0 + 2 * 0)) == 1) → ◌≡◌ {A = ℕ} (cond z 1 0) (bit_xor (cond x 1 0 * cond y 1 0) (cond (cond x 1 0 + 2 * cond y 1 0 == index) 1 0))
turned_bits zero true true z low is = rw is refl
turned_bits zero true false z low is = rw is refl
turned_bits zero false true z low is = rw is refl
turned_bits zero false false z low is = rw is refl
turned_bits (suc zero) true true z low is = rw is refl
turned_bits (suc zero) true false z low is = rw is refl
turned_bits (suc zero) false true z low is = rw is refl
turned_bits (suc zero) false false z low is = rw is refl
turned_bits (suc (suc zero)) true true z low is = rw is refl
turned_bits (suc (suc zero)) true false z low is = rw is refl
turned_bits (suc (suc zero)) false true z low is = rw is refl
turned_bits (suc (suc zero)) false false z low is = rw is refl
turned_bits (suc (suc (suc zero))) true true z low is = rw is refl
turned_bits (suc (suc (suc zero))) true false z low is = rw is refl
turned_bits (suc (suc (suc zero))) false true z low is = rw is refl
turned_bits (suc (suc (suc zero))) false false z low is = rw is refl
turned_bits (suc (suc (suc (suc index)))) x y z low is = absurd (omega arith)

-- the gates of the products are the first
pub at_product : (outer k g : ℕ) (a b z : List ℕ) (q : ℕ) (gate : GateValue) → slice_get (products k a b (begun outer)).gates q ≡ Some gate → slice_get (mastrovito_plan outer k g a b z).gates q ≡ Some gate
at_product outer k g a b z q gate got = ap (λ (gs : List GateValue). slice_get gs q) (chains_gates k z (added_products k g outer) (products k a b (begun outer))) ∙ get_front (products k a b (begun outer)).gates (chains k z (added_products k g outer) (begun (products k a b (begun outer)).next)).gates q gate got

module _ (outer k g : ℕ) (a b z : List ℕ) (p index : ℕ) (low : p < k * k) (small : index < 4) (bits : List Bool) (right : (gate : GateValue) → Has (turned_gates (mastrovito_plan outer k g a b z).gates p index) gate → IsRight bits gate) where
  gates_are : (mastrovito_plan outer k g a b z).gates ≡ (products k a b (begun outer)).gates ++ (chains k z (added_products k g outer) (begun (products k a b (begun outer)).next)).gates
  gates_are = chains_gates k z (added_products k g outer) (products k a b (begun outer))

  at_place : (q : ℕ) (gate : GateValue) → slice_get (products k a b (begun outer)).gates q ≡ Some gate → slice_get (mastrovito_plan outer k g a b z).gates q ≡ Some gate
  at_place q gate got = at_product outer k g a b z q gate got

  -- the chains are as before
  pub chains_right : Agrees bits (chains k z (added_products k g outer) (begun (products k a b (begun outer)).next))
  chains_right gate has =
      let place : ℕ = length (products k a b (begun outer)).gates + has.0 in
      let got : slice_get (mastrovito_plan outer k g a b z).gates (length (products k a b (begun outer)).gates + has.0) ≡ Some gate = ap (λ (gs : List GateValue). slice_get gs (length (products k a b (begun outer)).gates + has.0)) gates_are ∙ get_back (products k a b (begun outer)).gates (chains k z (added_products k g outer) (begun (products k a b (begun outer)).next)).gates has.0 gate has.1 in
      right gate (length (products k a b (begun outer)).gates + has.0, turned_other (mastrovito_plan outer k g a b z).gates p index (length (products k a b (begun outer)).gates + has.0) gate (λ e. omega (arith, e, products_long outer k a b, low)) got)

  -- each product is as before, but for the one that was turned
  pub product_bits : (i j : ℕ) → i < k → j < k → bit_at_net bits (outer + i * k + j) ≡ bit_xor (bit_at_net bits (slice_index a i) * bit_at_net bits (slice_index b j)) (cond (i * k + j == p) (cond (bit_at_net bits (slice_index a i) + 2 * bit_at_net bits (slice_index b j) == index) 1 0) 0)
  product_bits i j first second =
      let got = at_place (i * k + j) (and_gate (outer + i * k + j) (slice_index a i) (slice_index b j)) (product_at outer k a b i j first second) in
      elim (nat_eq_or (i * k + j) p) [
        | inr other ↦
            and_bits (bit_of bits (slice_index a i)) (bit_of bits (slice_index b j)) (bit_of bits (outer + i * k + j))
            (right (and_gate (outer + i * k + j) (slice_index a i) (slice_index b j)) (i * k + j, turned_other (mastrovito_plan outer k g a b z).gates p index (i * k + j) (and_gate (outer + i * k + j) (slice_index a i) (slice_index b j)) other got))
            ∙ (sym (xor_zero_r (bit_at_net bits (slice_index a i) * bit_at_net bits (slice_index b j)))
            ∙ ap (bit_xor (bit_at_net bits (slice_index a i) * bit_at_net bits (slice_index b j))) (sym (chosen_other (i * k + j) p (cond (bit_at_net bits (slice_index a i) + 2 * bit_at_net bits (slice_index b j) == index) 1 0) 0 other)))
        | inl same ↦
            turned_bits index (bit_of bits (slice_index a i)) (bit_of bits (slice_index b j)) (bit_of bits (outer + i * k + j)) small
            (right (turned_gate (and_gate (outer + i * k + j) (slice_index a i) (slice_index b j)) index) (p, turned_here (mastrovito_plan outer k g a b z).gates p index (and_gate (outer + i * k + j) (slice_index a i) (slice_index b j)) (ap (slice_get (mastrovito_plan outer k g a b z).gates) (sym same) ∙ got)))
            ∙ ap (bit_xor (bit_at_net bits (slice_index a i) * bit_at_net bits (slice_index b j))) (sym (chosen_equal (i * k + j) p (cond (bit_at_net bits (slice_index a i) + 2 * bit_at_net bits (slice_index b j) == index) 1 0) 0 same))
      ]
