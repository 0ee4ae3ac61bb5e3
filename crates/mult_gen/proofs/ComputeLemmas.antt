-- The made nets compute the product, the square and the sum.
use Rattle.std.proofs.Common.{◌≡◌, ◌∙◌, ap, ap₂, sym, subst, refl, ℕ, ◌<◌, ◌≤◌, ◌^◌, List, [], length, take, drop, arith}
use Rattle.std.specs.Prelude.{bit_xor, slice_index}
use Rattle.lists.specs.Lists.{Has}
use Rattle.lists.specs.laws.HasLaws.{none_stands}
use Rattle.gf_field.specs.Bit.{bit_mul}
use Rattle.gf_field.specs.Field.{HasNoZeroDivisors}
use Rattle.gf_field.specs.Modulus.{IsModulus}
use Rattle.gf_field.specs.Quotient.{product}
use Rattle.gf_field.specs.Ring.{IsRing}
use Rattle.gf_field.specs.laws.ModulusLaws.{IsRing-from_modulus}
use Rattle.irreducible.specs.Span.{combination}
use Rattle.irreducible.specs.laws.SpanLaws.{combination-xor}
use Rattle.gf_basis.specs.Basis.{first_values, IsBasis}
use Rattle.mult_gen.proofs.ChainLemmas.{index_has}
use Rattle.net_core.specs.NetList.{NetList}
use Rattle.net_core.specs.Sound.{IsSound}
use Rattle.net_core.specs.Value.{index_of}
use Rattle.net_signature.specs.Signature.{SignatureValue}
use Rattle.net_words.specs.declared.word.Role.TheVariants.{Input}
use Rattle.net_words.specs.declared.word.WordText.{WordText}
use Rattle.net_write.specs.Plain.{HasPlainNames}
use Rattle.make_laws.proofs.ProductBitLemmas.{product_bits, square_bits}
use Rattle.make_nets.specs.Plan.{Plan}
use Rattle.make_nets.specs.Computes.{ComputesOfOne, ComputesOfTwo}
use Rattle.make_nets.specs.Form.{AllWide, HasWords}
use Rattle.make_nets.specs.Made.{IsPlanFor}
use Rattle.make_nets.specs.MakerNames.{AreMakerNames}
use Rattle.make_nets.specs.Ports.{outer_names}
use Rattle.make_nets.proofs.MadeLemmas.{made_binds, made_plain, made_sound}
use Rattle.make_nets.proofs.PolyLemmas.{poly_element}
use Rattle.make_nets.proofs.RunLemmas.{computes_one, computes_two}
use Rattle.mult_gen.specs.Chains.{adder_plan, mastrovito_plan, squarer_plan}
use Rattle.mult_gen.specs.Form.{AddsInEachBasis, AreWide, HasAdderForm, adder_over, inputs_in, made_adder, made_mastrovito, made_squarer, outer_of, outputs_in}
use Rattle.mult_gen.proofs.FormLemmas.{wide_of}
use Rattle.mult_gen.proofs.AdderLemmas.{adder_made, adder_next, adder_sum}
use Rattle.mult_gen.proofs.MastrovitoLemmas.{mastrovito_few, mastrovito_made, mastrovito_product}
use Rattle.mult_gen.proofs.PlanLemmas.{agrees_of, drop_has, drop_long, held, inputs_long, outer_few, output_low, outputs_long, plan_for, take_has, take_long}
use Rattle.mult_gen.proofs.PolyLemmas.{powers_basis}
use Rattle.mult_gen.proofs.SquarerLemmas.{squarer_few, squarer_made, squarer_square}

second_has : (k : ℕ) (words : List WordText) → HasWords Input 2 words → AllWide k words → (i : ℕ) → i < k → Has (inputs_in words) (slice_index (drop k (inputs_in words)) i)
second_has k words has wide i less = drop_has 2 k words has wide i (omega (arith, less, drop_long k words has wide))

-- a multiplier
module _ (k g : ℕ) (small : k ≤ 64) (words : List WordText) (has : HasWords Input 2 words) (wide : AllWide k words) where
  abbrev mastrovito : Plan
  mastrovito = mastrovito_plan (outer_of words) k g (take k (inputs_in words)) (drop k (inputs_in words)) (outputs_in words)

  pub mastrovito_fits : IsPlanFor words [] [] (outputs_in words) mastrovito
  mastrovito_fits =
      plan_for 2 k words has wide mastrovito
      (mastrovito_made (outer_of words) k g (take k (inputs_in words)) (drop k (inputs_in words)) (outputs_in words) small (take_long 2 k words has wide (omega arith)) (drop_long k words has wide) (outputs_long 2 k words has wide) (inputs_in words) (λ i less. take_has 2 k words has wide i (omega arith) less) (second_has k words has wide) (output_low 2 k words has wide))
      (omega (arith, mastrovito_few (outer_of words) k g (take k (inputs_in words)) (drop k (inputs_in words)) (outputs_in words) small (take_long 2 k words has wide (omega arith)) (drop_long k words has wide) (outputs_long 2 k words has wide), outer_few k 2 words small (omega arith) has wide, small))

  pub adder_fits : IsPlanFor words [] [] (outputs_in words) (adder_plan (outer_of words) k (take k (inputs_in words)) (drop k (inputs_in words)) (outputs_in words))
  adder_fits =
      plan_for 2 k words has wide (adder_plan (outer_of words) k (take k (inputs_in words)) (drop k (inputs_in words)) (outputs_in words))
      (adder_made (outer_of words) k (take k (inputs_in words)) (drop k (inputs_in words)) (outputs_in words) (take_long 2 k words has wide (omega arith)) (drop_long k words has wide) (outputs_long 2 k words has wide) (inputs_in words) (λ i less. take_has 2 k words has wide i (omega arith) less) (second_has k words has wide) (output_low 2 k words has wide))
      (omega (arith, adder_next (outer_of words) k (take k (inputs_in words)) (drop k (inputs_in words)) (outputs_in words) (take_long 2 k words has wide (omega arith)) (drop_long k words has wide) (outputs_long 2 k words has wide) k, outer_few k 2 words small (omega arith) has wide, small))

-- a squarer
module _ (k g : ℕ) (small : k ≤ 64) (words : List WordText) (has : HasWords Input 1 words) (wide : AllWide k words) where
  one_long : length (inputs_in words) ≡ k
  one_long = inputs_long 1 k words has wide ∙ omega arith

  pub squarer_fits : IsPlanFor words [] [] (outputs_in words) (squarer_plan (outer_of words) k g (inputs_in words) (outputs_in words))
  squarer_fits =
      plan_for 1 k words has wide (squarer_plan (outer_of words) k g (inputs_in words) (outputs_in words))
      (squarer_made (outer_of words) k g (inputs_in words) (outputs_in words) small one_long (outputs_long 1 k words has wide) (inputs_in words) (λ i less. index_has (inputs_in words) i (omega (arith, less, one_long))) (output_low 1 k words has wide))
      (omega (arith, squarer_few (outer_of words) k g (inputs_in words) (outputs_in words) small one_long (outputs_long 1 k words has wide), outer_few k 1 words small (omega arith) has wide, small))

-- the multiplier gives the product
pub mastrovito_computes : (k g : ℕ) → IsModulus k g → HasNoZeroDivisors k (product 1 k bit_mul g) → (words : List WordText) → HasWords Input 2 words → AllWide k words → AreMakerNames (outer_names words []) → ComputesOfTwo k (product 1 k bit_mul g) (made_mastrovito k g words) words (first_values k (λ i. 2 ^ i)) 0 (product 1 k bit_mul g)
mastrovito_computes k g ok field words has wide are =
    let plan : Plan = mastrovito_plan (outer_of words) k g (take k (inputs_in words)) (drop k (inputs_in words)) (outputs_in words) in
    let ring : IsRing k (product 1 k bit_mul g) = IsRing-from_modulus k g ok in
    let fits : IsPlanFor words [] [] (outputs_in words) (mastrovito_plan (outer_of words) k g (take k (inputs_in words)) (drop k (inputs_in words)) (outputs_in words)) = mastrovito_fits k g ok.small words has wide in
    computes_two k (product 1 k bit_mul g) ring field (made_mastrovito k g words) (made_sound words [] [] (outputs_in words) (mastrovito_plan (outer_of words) k g (take k (inputs_in words)) (drop k (inputs_in words)) (outputs_in words)) are fits) words (first_values k (λ i. 2 ^ i)) (powers_basis k) 0 wide ok.some ok.small (product 1 k bit_mul g) has
    (made_binds words [] [] (outputs_in words) (mastrovito_plan (outer_of words) k g (take k (inputs_in words)) (drop k (inputs_in words)) (outputs_in words)) are fits [] [] (held 2 k words has wide) refl (λ n h. none_stands n h))
    (λ bits consistent a b e low high first second out.
    poly_element k e (index_of bits (outputs_in words)) out
    ∙ (mastrovito_product (outer_of words) k g (take k (inputs_in words)) (drop k (inputs_in words)) (outputs_in words) ok.small (take_long 2 k words has wide (omega arith)) (drop_long k words has wide) (outputs_long 2 k words has wide) bits ring (product_bits k g ok)
    (agrees_of words (mastrovito_plan (outer_of words) k g (take k (inputs_in words)) (drop k (inputs_in words)) (outputs_in words)) bits consistent)
    ∙ ap₂ (product 1 k bit_mul g) (sym (poly_element k a (index_of bits (take k (inputs_in words))) first)) (sym (poly_element k b (index_of bits (drop k (inputs_in words))) second))))

-- the squarer gives the square
pub squarer_computes : (k g : ℕ) → IsModulus k g → HasNoZeroDivisors k (product 1 k bit_mul g) → (words : List WordText) → HasWords Input 1 words → AllWide k words → AreMakerNames (outer_names words []) → ComputesOfOne k (product 1 k bit_mul g) (made_squarer k g words) words (first_values k (λ i. 2 ^ i)) 0 (λ a. product 1 k bit_mul g a a)
squarer_computes k g ok field words has wide are =
    let ring : IsRing k (product 1 k bit_mul g) = IsRing-from_modulus k g ok in
    let fits : IsPlanFor words [] [] (outputs_in words) (squarer_plan (outer_of words) k g (inputs_in words) (outputs_in words)) = squarer_fits k g ok.small words has wide in
    computes_one k (product 1 k bit_mul g) ring field (made_squarer k g words) (made_sound words [] [] (outputs_in words) (squarer_plan (outer_of words) k g (inputs_in words) (outputs_in words)) are fits) words (first_values k (λ i. 2 ^ i)) (powers_basis k) 0 wide ok.some ok.small (λ a. product 1 k bit_mul g a a) has
    (made_binds words [] [] (outputs_in words) (squarer_plan (outer_of words) k g (inputs_in words) (outputs_in words)) are fits [] [] (held 1 k words has wide) refl (λ n h. none_stands n h))
    (λ bits consistent a e low first out.
    poly_element k e (index_of bits (outputs_in words)) out
    ∙ (squarer_square (outer_of words) k g (inputs_in words) (outputs_in words) ok.small (one_long k g ok.small words has wide) (outputs_long 1 k words has wide) bits ring (square_bits k g ok)
    (agrees_of words (squarer_plan (outer_of words) k g (inputs_in words) (outputs_in words)) bits consistent)
    ∙ ap (λ x. product 1 k bit_mul g x x) (sym (poly_element k a (index_of bits (inputs_in words)) first))))

-- the adder gives the sum, in any basis
pub adder_computes : (k : ℕ) (mul : ℕ → ℕ → ℕ) → IsRing k mul → HasNoZeroDivisors k mul → (basis : List ℕ) → IsBasis k basis → (words : List WordText) → HasWords Input 2 words → AllWide k words → AreMakerNames (outer_names words []) → ComputesOfTwo k mul (made_adder k words) words basis 0 bit_xor
adder_computes k mul ring field basis is_basis words has wide are =
    let fits : IsPlanFor words [] [] (outputs_in words) (adder_plan (outer_of words) k (take k (inputs_in words)) (drop k (inputs_in words)) (outputs_in words)) = adder_fits k 0 ring.small words has wide in
    computes_two k mul ring field (made_adder k words) (made_sound words [] [] (outputs_in words) (adder_plan (outer_of words) k (take k (inputs_in words)) (drop k (inputs_in words)) (outputs_in words)) are fits) words basis is_basis 0 wide ring.some ring.small bit_xor has
    (made_binds words [] [] (outputs_in words) (adder_plan (outer_of words) k (take k (inputs_in words)) (drop k (inputs_in words)) (outputs_in words)) are fits [] [] (held 2 k words has wide) refl (λ n h. none_stands n h))
    (λ bits consistent a b e low high first second out.
    let sum = adder_sum (outer_of words) k (take k (inputs_in words)) (drop k (inputs_in words)) (outputs_in words) (take_long 2 k words has wide (omega arith)) (drop_long k words has wide) (outputs_long 2 k words has wide) bits
    (agrees_of words (adder_plan (outer_of words) k (take k (inputs_in words)) (drop k (inputs_in words)) (outputs_in words)) bits consistent) in
    sym out.is ∙ (ap (combination basis) sum ∙ (combination-xor basis (index_of bits (take k (inputs_in words))) (index_of bits (drop k (inputs_in words))) ∙ ap₂ bit_xor first.is second.is)))

-- the adder of the words of a signature that has the form
module _ (k : ℕ) (small : k ≤ 64) (signature : SignatureValue) (form : HasAdderForm signature) (wide : AreWide k signature.words) (net : NetList) (is : net ≡ made_adder k signature.words) where
  words_wide : AllWide k signature.words
  words_wide = wide_of k 2 signature.words form.ports.words wide

  adder_for : IsPlanFor signature.words [] [] (outputs_in signature.words) (adder_over k signature.words)
  adder_for = adder_fits k 0 small signature.words form.ports.words words_wide

  pub adder_sound : IsSound net
  adder_sound = subst IsSound (sym is) (made_sound signature.words [] [] (outputs_in signature.words) (adder_over k signature.words) form.ports.names adder_for)

  pub adder_plain : HasPlainNames net
  adder_plain = subst HasPlainNames (sym is) (made_plain signature.words [] [] (outputs_in signature.words) (adder_over k signature.words) form.ports.names adder_for)

  pub adder_adds : (mul : ℕ → ℕ → ℕ) → IsRing k mul → HasNoZeroDivisors k mul → AddsInEachBasis k mul net signature.words
  adder_adds mul ring field basis is_basis =
      let P : NetList → Type 0 = λ net. ComputesOfTwo k mul net signature.words basis 0 bit_xor in
      subst P (sym is) (adder_computes k mul ring field basis is_basis signature.words form.ports.words words_wide form.ports.names)
