-- The multiplier over the words of a signature.
use Rattle.std.proofs.Common.{◌≡◌, ◌≢◌, ◌∙◌, ap, sym, refl, subst, ℕ, ◌<◌, ◌≤◌, ◌+◌, ◌*◌, ◌^◌, Bool, List, [], length, take, drop, arith}
use Rattle.lists.specs.Limits.{most_bytes}
use Rattle.lists.specs.Lists.{Has}
use Rattle.lists.specs.laws.HasLaws.{Has_left, Has_right}
use Rattle.lists.specs.laws.NumberLaws.{mul_few}
use Rattle.gf_field.specs.Bit.{bit_mul}
use Rattle.gf_field.specs.Field.{HasNoZeroDivisors}
use Rattle.gf_field.specs.Modulus.{IsModulus}
use Rattle.gf_field.specs.Quotient.{product}
use Rattle.gf_field.specs.Ring.{IsRing}
use Rattle.gf_field.specs.laws.ModulusLaws.{IsRing-from_modulus}
use Rattle.gf_basis.specs.Basis.{AreBits, first_values}
use Rattle.net_core.specs.Sound.{IsSound}
use Rattle.net_core.specs.Value.{index_of, IsConsistent}
use Rattle.net_write.specs.Plain.{HasPlainNames}
use Rattle.net_write.specs.Written.{written}
use Rattle.net_words.specs.declared.word.Role.TheVariants.{Input, Output}
use Rattle.net_words.specs.declared.word.WordText.{WordText}
use Rattle.make_nets.specs.Computes.{ComputesOfTwo}
use Rattle.make_nets.specs.Form.{AllWide, HasWords}
use Rattle.make_nets.specs.Made.{IsPlanFor}
use Rattle.make_nets.specs.MakerNames.{AreMakerNames}
use Rattle.make_nets.specs.Ports.{outer_names}
use Rattle.make_nets.proofs.FormLemmas.{names_long}
use Rattle.make_nets.proofs.FrontLemmas.{take_drop}
use Rattle.make_nets.proofs.MadeLemmas.{made_binds, made_plain, made_sound}
use Rattle.make_nets.proofs.MakeLemmas.{role_low}
use Rattle.make_nets.proofs.PolyLemmas.{poly_element}
use Rattle.make_nets.proofs.RunLemmas.{computes_two}
use Rattle.make_nets.proofs.RowLemmas.{HaveBits}
use Rattle.make_laws.specs.InversePower.{IsInversePower}
use Rattle.make_laws.proofs.MontgomeryLemmas.{last_coefficient}
use Rattle.make_nets.proofs.SharedLemmas.{index_bits}
use Rattle.mult_gen.specs.Form.{inputs_in, outer_of, outputs_in}
use Rattle.mult_gen.proofs.PlanLemmas.{agrees_of, drop_long, held, outputs_long, plan_for, take_long}
use Rattle.mult_gen.proofs.PolyLemmas.{index_is, powers_basis}
use Rattle.mult_gen.proofs.ShortLemmas.{short_plan, text_fits}
use Rattle.mult_montgomery.specs.Form.{made_montgomery, montgomery_product, plan_of_words}
use Rattle.mult_montgomery.proofs.RoundLemmas.{montgomery_bits}
use Rattle.mult_montgomery.proofs.ShapeLemmas.{montgomery_made, montgomery_next}
use Rattle.mult_montgomery.proofs.TwoLemmas.{montgomery_two}

module _ (k g : ℕ) (ok : IsModulus k g) (words : List WordText) (has : HasWords Input 2 words) (wide : AllWide k words) where
  abbrev a : List ℕ
  a = take k (inputs_in words)

  abbrev b : List ℕ
  b = drop k (inputs_in words)

  in_a : (n : ℕ) → Has (take k (inputs_in words)) n → Has (inputs_in words) n
  in_a n there =
      let P : List ℕ → Type 0 = λ v. Has v n in
      subst P (sym (take_drop (inputs_in words) k)) (Has_left a b n there)

  in_b : (n : ℕ) → Has (drop k (inputs_in words)) n → Has (inputs_in words) n
  in_b n there =
      let P : List ℕ → Type 0 = λ v. Has v n in
      subst P (sym (take_drop (inputs_in words) k)) (Has_right a b n there)

  long_a : length (take k (inputs_in words)) ≡ k
  long_a = take_long 2 k words has wide (omega arith)

  long_b : length (drop k (inputs_in words)) ≡ k
  long_b = drop_long k words has wide

  next_few : (plan_of_words k g words).next ≤ outer_of words + 12288
  next_few =
      let next = montgomery_next (outer_of words) (inputs_in words) k g ok.some a b long_a long_b in_a in_b (outputs_in words) in
      let squares : k * (3 * k) ≤ 64 * 192 = mul_few k (3 * k) 64 192 ok.small (omega (arith, ok.small)) in
      omega (arith, next, squares)

  few : (plan_of_words k g words).next + k ≤ 2 ^ 20
  few =
      let outer : outer_of words ≡ length words * k = names_long k words wide in
      let three : length words * k ≡ 3 * k = ap (λ c. c * k) has.all in
      omega (arith, next_few, outer, three, ok.small)

  pub fits : IsPlanFor words [] [] (outputs_in words) (plan_of_words k g words)
  fits =
      plan_for 2 k words has wide (plan_of_words k g words)
      (montgomery_made (outer_of words) (inputs_in words) k g ok.some a b long_a long_b in_a in_b (outputs_in words) (outputs_long 2 k words has wide) (λ n there. omega (arith, (role_low Output 0 words n there).1)))
      few

  module _ (names : AreMakerNames (outer_names words [])) where
    pub sound : IsSound (made_montgomery k g words)
    sound = made_sound words [] [] (outputs_in words) (plan_of_words k g words) names fits

    pub text : length (written (made_montgomery k g words)) ≤ most_bytes
    text =
        text_fits 2 k words has wide ok.small (plan_of_words k g words) fits (omega arith) names
        (short_plan 2 k words has wide ok.small (plan_of_words k g words) fits (montgomery_two (outer_of words) k g a b (outputs_in words)) (omega (arith, next_few)))

    pub plain : HasPlainNames (made_montgomery k g words)
    plain = made_plain words [] [] (outputs_in words) (plan_of_words k g words) names fits

    pub computes : HasNoZeroDivisors k (product 1 k bit_mul g) → g ≢ 2 → (r : ℕ) → IsInversePower k g r → ComputesOfTwo k (product 1 k bit_mul g) (made_montgomery k g words) words (first_values k (λ i. 2 ^ i)) 0 (montgomery_product k g r)
    computes field other r inverse =
        computes_two k (product 1 k bit_mul g) ring field (made_montgomery k g words) sound words (first_values k (λ i. 2 ^ i)) (powers_basis k) 0 wide ok.some ok.small (montgomery_product k g r) has
        (made_binds words [] [] (outputs_in words) (plan_of_words k g words) names fits [] [] (held 2 k words has wide) refl (λ n there. absurd (let got = there.1 in cc)))
        each
      where
        ring : IsRing k (product 1 k bit_mul g)
        ring = IsRing-from_modulus k g ok

        each : (bits : List Bool) → IsConsistent (made_montgomery k g words) bits → (x y e : ℕ) → x < 2 ^ k → y < 2 ^ k → AreBits (first_values k (λ i. 2 ^ i)) x (index_of bits (take k (inputs_in words))) → AreBits (first_values k (λ i. 2 ^ i)) y (index_of bits (drop k (inputs_in words))) → AreBits (first_values k (λ i. 2 ^ i)) e (index_of bits (outputs_in words)) → e ≡ montgomery_product k g r x y
        each bits consistent x y e x_low y_low x_is y_is e_is =
            let P : ℕ → Type 0 = λ v. HaveBits bits a v in
            let Q : ℕ → Type 0 = λ v. HaveBits bits b v in
            let have_a : HaveBits bits a x = subst P (sym (poly_element k x (index_of bits a) x_is)) (index_bits bits a) in
            let have_b : HaveBits bits b y = subst Q (sym (poly_element k y (index_of bits b) y_is)) (index_bits bits b) in
            let odd = last_coefficient k g ok field other in
            poly_element k e (index_of bits (outputs_in words)) e_is
            ∙ index_is bits (outputs_in words) k (montgomery_product k g r x y) (outputs_long 2 k words has wide) (ring.closed (product 1 k bit_mul g x y) r)
            (montgomery_bits bits (outer_of words) k g ok odd x y r x_low y_low inverse.is a b (outputs_in words) long_a long_b have_a have_b (agrees_of words (plan_of_words k g words) bits consistent))
