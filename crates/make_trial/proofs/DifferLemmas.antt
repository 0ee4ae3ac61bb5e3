-- A multiplier with one bit of one table turned over differs from the product.
use Rattle.std.proofs.Common.{◌≡◌, ◌≢◌, ◌∙◌, ap, ap₂, sym, refl, inl, inr, ℕ, zero, suc, ◌<◌, ◌+◌, ◌*◌, ◌/◌, ◌%◌, ◌^◌, cond, List, [], take, drop, Some, Ok, arith}
use Rattle.std.specs.Prelude.{bit_xor, slice_get, slice_index, ◌==◌}
use Rattle.std.specs.List.{range_with_len}
use Rattle.std.specs.Int.{bit_at}
use Rattle.std.specs.Int.Bits.{xor_assoc, xor_self, xor_zero_l}
use Rattle.std.proofs.lemmas.Nat.{pow_below}
use Rattle.std.proofs.lemmas.Nat.Bits.{bit_at-zero, bit_at-pow_same}
use Rattle.lists.specs.laws.HasLaws.{Has_cases, Has_left, none_stands}
use Rattle.lists.specs.laws.TestLaws.{chosen_equal}
use Rattle.gf_field.specs.Bit.{bit_mul}
use Rattle.gf_field.specs.Field.{HasNoZeroDivisors}
use Rattle.gf_field.specs.Modulus.{IsModulus}
use Rattle.gf_field.specs.Power.{power}
use Rattle.gf_field.specs.Quotient.{product}
use Rattle.gf_field.specs.Ring.{IsRing}
use Rattle.gf_field.specs.laws.ModulusLaws.{IsRing-from_modulus}
use Rattle.gf_field.specs.laws.PowerLaws.{power_below}
use Rattle.gf_basis.specs.Basis.{first_values}
use Rattle.make_laws.specs.Indeterminate.{x_of}
use Rattle.make_laws.specs.ProductBits.{x_to}
use Rattle.make_laws.proofs.ProductBitLemmas as bits_of
use Rattle.net_core.specs.GateValue.{GateValue}
use Rattle.net_core.specs.Sound.{IsSound}
use Rattle.net_core.specs.Turned.{turned}
use Rattle.net_core.specs.Value.{index_of}
use Rattle.net_core.proofs.TurnLemmas.{turned_sound}
use Rattle.net_words.specs.Bind.{BindingOf}
use Rattle.net_words.specs.declared.word.Role.TheVariants.{Input}
use Rattle.net_words.specs.declared.word.WordText.{WordText}
use Rattle.make_nets.specs.BindingOfMade.{binding_of}
use Rattle.make_nets.specs.Computes.{ComputesOfTwo}
use Rattle.make_nets.specs.Form.{AllWide, HasWords}
use Rattle.make_nets.specs.Made.{IsPlanFor}
use Rattle.make_nets.specs.MakerNames.{AreMakerNames}
use Rattle.make_nets.specs.Ports.{outer_names, word_names}
use Rattle.make_nets.proofs.BindingLemmas.{found_front, words_bind}
use Rattle.make_nets.proofs.MadeLemmas.{made_sound, outer_found}
use Rattle.make_nets.proofs.PolyLemmas.{poly_element}
use Rattle.make_nets.proofs.RunLemmas.{computes_two}
use Rattle.mult_gen.specs.Chains.{mastrovito_plan}
use Rattle.mult_gen.specs.Form.{inputs_in, made_mastrovito, outer_of, outputs_in}
use Rattle.mult_gen.proofs.ComputeLemmas.{mastrovito_fits}
use Rattle.mult_gen.proofs.PlanLemmas.{drop_long, held, outputs_long, take_long}
use Rattle.mult_gen.proofs.PolyLemmas.{powers_basis}
use Rattle.make_trial.specs.Turned.{turned_product}
use Rattle.make_trial.proofs.MutatedLemmas.{column_low, place_is, row_low, turned_value}
use Rattle.make_trial.proofs.PlaceLemmas.{and_gate, product_at}
use Rattle.make_trial.proofs.ValueLemmas.{at_product}

-- powers of an element that is not 0 are not 0
power_some : (k : ℕ) (mul : ℕ → ℕ → ℕ) → IsRing k mul → HasNoZeroDivisors k mul → (x e : ℕ) → x < 2 ^ k → x ≢ 0 → power mul x e ≢ 0
unfolding power
power_some k mul ring field x zero low some = λ e. omega (arith, e)
power_some k mul ring field x (suc e) low some = field.nonzero x (power mul x e) low (power_below k mul ring x e) some (power_some k mul ring field x e low some)

-- a power of x that is reached by products is not 0
reached : (k g i j : ℕ) → IsRing k (product 1 k bit_mul g) → HasNoZeroDivisors k (product 1 k bit_mul g) → i < k → j < k → x_to k g (i + j) ≢ 0
unfolding power
reached zero g i j ring field first second = absurd (omega arith)
reached (suc zero) g i j ring field first second = let none : i + j ≡ 0 = omega arith in λ e. omega (arith, sym (ap (λ n. power (product 1 1 bit_mul g) (x_of 1 g) n) none) ∙ e)
reached (suc (suc d)) g i j ring field first second = power_some (suc (suc d)) (product 1 (suc (suc d)) bit_mul g) ring field 2 (i + j) (pow_below 1 (suc (suc d)) (omega arith)) (λ e. omega (arith, e))

-- a number with this bit at a place
with_bit : (k place bit : ℕ) → place < k → bit < 2 → (a : ℕ) × (a < 2 ^ k) × (bit_at a place ≡ bit)
with_bit k place zero less low = (0, omega (arith, pow_below place k less), bit_at-zero place)
with_bit k place (suc zero) less low = (2 ^ place, pow_below place k less, bit_at-pow_same place)
with_bit k place (suc (suc b)) less low = absurd (omega arith)

xor_other : (x y : ℕ) → y ≢ 0 → bit_xor x y ≢ x
xor_other x y some same = some (sym (xor_zero_l y) ∙ (ap (λ n. bit_xor n y) (sym (xor_self x)) ∙ (xor_assoc x x y ∙ (ap (bit_xor x) same ∙ xor_self x))))

-- at some factors it is not their product
pub differs : (k g : ℕ) → IsModulus k g → HasNoZeroDivisors k (product 1 k bit_mul g) → (p index : ℕ) → p < k * k → index < 4 → (a b : ℕ) × (a < 2 ^ k) × (b < 2 ^ k) × (turned_product k g p index a b ≢ product 1 k bit_mul g a b)
differs k g ok field p index low small =
    let ring : IsRing k (product 1 k bit_mul g) = IsRing-from_modulus k g ok in
    let a = with_bit k (p / k) (index % 2) (row_low k p low) (omega arith) in
    let b = with_bit k (p % k) (index / 2) (column_low k p low) (omega (arith, small)) in
    let read : bit_at a.0 (p / k) + 2 * bit_at b.0 (p % k) ≡ index = omega (arith, a.2, b.2) in
    let added : cond (bit_at a.0 (p / k) + 2 * bit_at b.0 (p % k) == index) (x_to k g (p / k + p % k)) 0 ≡ x_to k g (p / k + p % k) = chosen_equal (bit_at a.0 (p / k) + 2 * bit_at b.0 (p % k)) index (x_to k g (p / k + p % k)) 0 read in
    (a.0, b.0, a.1, b.1, λ e. xor_other (product 1 k bit_mul g a.0 b.0) (x_to k g (p / k + p % k)) (reached k g (p / k) (p % k) ring field (row_low k p low) (column_low k p low)) (sym (ap (bit_xor (product 1 k bit_mul g a.0 b.0)) added) ∙ e))

-- the first k * k gates are the products
pub product_gates : (k g : ℕ) (words : List WordText) (i j : ℕ) → i < k → j < k → slice_get (made_mastrovito k g words).gates (i * k + j) ≡ Some (and_gate (outer_of words + i * k + j) (slice_index (take k (inputs_in words)) i) (slice_index (drop k (inputs_in words)) j))
product_gates k g words i j first second = at_product (outer_of words) k g (take k (inputs_in words)) (drop k (inputs_in words)) (outputs_in words) (i * k + j) (and_gate (outer_of words + i * k + j) (slice_index (take k (inputs_in words)) i) (slice_index (drop k (inputs_in words)) j)) (product_at (outer_of words) k (take k (inputs_in words)) (drop k (inputs_in words)) i j first second)

-- what the turned net computes
pub turned_computes : (k g : ℕ) → IsModulus k g → HasNoZeroDivisors k (product 1 k bit_mul g) → (words : List WordText) (p index : ℕ) → HasWords Input 2 words → AllWide k words → AreMakerNames (outer_names words []) → p < k * k → index < 4 → ComputesOfTwo k (product 1 k bit_mul g) (turned (made_mastrovito k g words) p index) words (first_values k (λ i. 2 ^ i)) 0 (turned_product k g p index)
turned_computes k g ok field words p index has wide are low small =
    let ring : IsRing k (product 1 k bit_mul g) = IsRing-from_modulus k g ok in
    let fits : IsPlanFor words [] [] (outputs_in words) (mastrovito_plan (outer_of words) k g (take k (inputs_in words)) (drop k (inputs_in words)) (outputs_in words)) = mastrovito_fits k g ok.small words has wide in
    let gate : GateValue = and_gate (outer_of words + p / k * k + p % k) (slice_index (take k (inputs_in words)) (p / k)) (slice_index (drop k (inputs_in words)) (p % k)) in
    let there : slice_get (made_mastrovito k g words).gates p ≡ Some (and_gate (outer_of words + p / k * k + p % k) (slice_index (take k (inputs_in words)) (p / k)) (slice_index (drop k (inputs_in words)) (p % k))) = ap (slice_get (made_mastrovito k g words).gates) (sym (place_is k p)) ∙ product_gates k g words (p / k) (p % k) (row_low k p low) (column_low k p low) in
    let sound : IsSound (turned (made_mastrovito k g words) p index) = turned_sound (made_mastrovito k g words) p index gate there (omega (arith, small)) (made_sound words [] [] (outputs_in words) (mastrovito_plan (outer_of words) k g (take k (inputs_in words)) (drop k (inputs_in words)) (outputs_in words)) are fits) in
    let binds : BindingOf (turned (made_mastrovito k g words) p index) words [] (Ok (binding_of (turned (made_mastrovito k g words) p index) words [])) =
    words_bind (turned (made_mastrovito k g words) p index) words [] []
    (found_front (made_mastrovito k g words) 0 (word_names words) [] (outer_found words [] [] (outputs_in words) (mastrovito_plan (outer_of words) k g (take k (inputs_in words)) (drop k (inputs_in words)) (outputs_in words)) are fits))
    (λ n h. Has_left (inputs_in words) (range_with_len (outer_of words) 0) n h) (held 2 k words has wide) refl
    (λ n h. elim (Has_cases (inputs_in words) (range_with_len (outer_of words) 0) n h) [ inl w ↦ inl w | inr w ↦ none_stands n w ]) in
    computes_two k (product 1 k bit_mul g) ring field (turned (made_mastrovito k g words) p index) sound words (first_values k (λ i. 2 ^ i)) (powers_basis k) 0 wide ok.some ok.small (turned_product k g p index) has binds
    (λ bits consistent a b e first second one two out.
    poly_element k e (index_of bits (outputs_in words)) out
    ∙ (turned_value (outer_of words) k g (take k (inputs_in words)) (drop k (inputs_in words)) (outputs_in words) p index low small (take_long 2 k words has wide (omega arith)) (drop_long k words has wide) (outputs_long 2 k words has wide) bits (λ h there. consistent.gates h there) ring (bits_of.product_bits k g ok)
    ∙ ap₂ (turned_product k g p index) (sym (poly_element k a (index_of bits (take k (inputs_in words))) one)) (sym (poly_element k b (index_of bits (drop k (inputs_in words))) two))))
