-- The multiplier over the words of a signature.
use Rattle.std.proofs.Common.{◌≡◌, ◌∙◌, ap, sym, refl, subst, ℕ, ◌<◌, ◌≤◌, ◌+◌, ◌*◌, ◌-◌, ◌^◌, Bool, List, [], length, take, drop, arith, mul_comm, mul_assoc}
use Rattle.std.proofs.Math.Nat.{mul-add}
use Rattle.lists.specs.Limits.{most_bytes}
use Rattle.lists.specs.Lists.{Has}
use Rattle.lists.specs.laws.HasLaws.{Has_left, Has_right}
use Rattle.lists.specs.laws.NumberLaws.{mul_few}
use Rattle.gf_field.specs.Bit.{bit_mul}
use Rattle.gf_field.specs.Field.{HasNoZeroDivisors}
use Rattle.gf_field.specs.Modulus.{IsModulus}
use Rattle.gf_field.specs.Quotient.{product}
use Rattle.gf_field.specs.Ring.{IsRing}
use Rattle.gf_field.specs.laws.ModulusLaws.{IsRing-from_modulus}
use Rattle.gf_tower.specs.Tower.{tower_polynomial}
use Rattle.gf_tower.specs.Digits.{IsPackedList}
use Rattle.gf_tower.specs.laws.TowerLaws.{IsRing-tower}
use Rattle.gf_basis.specs.Basis.{AreBits, first_values}
use Rattle.make_laws.proofs.TowerBitLemmas.{tower_bits}
use Rattle.make_laws.specs.TowerProduct.{HasTowerBits}
use Rattle.net_core.specs.Sound.{IsSound}
use Rattle.net_core.specs.Value.{index_of, IsConsistent}
use Rattle.net_write.specs.Plain.{HasPlainNames}
use Rattle.net_write.specs.Written.{written}
use Rattle.net_words.specs.declared.word.Role.TheVariants.{Input, Output}
use Rattle.net_words.specs.declared.word.WordText.{WordText}
use Rattle.make_nets.specs.Computes.{ComputesOfTwo}
use Rattle.make_nets.specs.Form.{AllWide, HasWords}
use Rattle.make_nets.specs.Made.{IsPlanFor}
use Rattle.make_nets.specs.MakerNames.{AreMakerNames}
use Rattle.make_nets.specs.Ports.{outer_names}
use Rattle.make_nets.proofs.FormLemmas.{names_long}
use Rattle.make_nets.proofs.FrontLemmas.{take_drop}
use Rattle.make_nets.proofs.MadeLemmas.{made_binds, made_plain, made_sound}
use Rattle.make_nets.proofs.MakeLemmas.{role_low}
use Rattle.make_nets.proofs.PolyLemmas.{poly_element}
use Rattle.make_nets.proofs.RunLemmas.{computes_two}
use Rattle.make_nets.proofs.RowLemmas.{HaveBits}
use Rattle.make_nets.proofs.RowShapeLemmas.{IsMadeOutput}
use Rattle.make_nets.proofs.SharedLemmas.{index_bits}
use Rattle.mult_gen.specs.Form.{inputs_in, outer_of, outputs_in}
use Rattle.mult_gen.proofs.PlanLemmas.{agrees_of, drop_long, held, outputs_long, plan_for, take_long}
use Rattle.mult_gen.proofs.PolyLemmas.{index_is, powers_basis}
use Rattle.mult_gen.proofs.ShortLemmas.{short_plan, text_fits}
use Rattle.mult_composite.specs.Form.{made_composite, plan_of_words}
use Rattle.mult_composite.proofs.RoomLemmas.{low_few, size_few}
use Rattle.mult_composite.proofs.ShapeLemmas.{composite_made}
use Rattle.mult_composite.proofs.SumLemmas.{composite_bits}
use Rattle.mult_composite.proofs.TwoLemmas.{composite_two}

-- squares of products
split : (m n w : ℕ) → m * m * (n * w) ≡ m * n * (m * w)
split m n w = mul_assoc m m (n * w) ∙ ap (λ v. m * v) (sym (mul_assoc m n w) ∙ ap (λ v. v * w) (mul_comm m n) ∙ mul_assoc n m w) ∙ sym (mul_assoc m n (m * w))

-- how many inner nets there are at most
pub most_few : (n m : ℕ) → n ≤ 32 → m ≤ 64 → n * m ≤ 64 → m * m * (n * n + n * (n * n + 1)) + (2 * m - 1) * n * (m + 1) + m * n * ((m - 1) * n + 2) ≤ 151808
most_few n m small few fits = omega (arith, mul-add (m * m) (n * n) (n * (n * n + 1)), first, second, third, fourth)
  where
    k : m * n ≤ 64
    k = omega (arith, mul_comm m n, fits)

    first : m * m * (n * n) ≤ 64 * 64
    first = omega (arith, split m n n, mul_few (m * n) (m * n) 64 64 k k)

    inner : m * (n * n + 1) ≤ 2112
    inner = omega (arith, mul-add m (n * n) 1, sym (mul_assoc m n n), mul_few (m * n) n 64 32 k small, few)

    second : m * m * (n * (n * n + 1)) ≤ 64 * 2112
    second = omega (arith, split m n (n * n + 1), mul_few (m * n) (m * (n * n + 1)) 64 2112 k inner)

    third : (2 * m - 1) * n * (m + 1) ≤ 128 * 65
    third = mul_few ((2 * m - 1) * n) (m + 1) 128 65 (omega (arith, mul_few (2 * m - 1) n (2 * m) n (omega arith) (omega arith), mul_assoc 2 m n, k)) (omega (arith, few))

    less : (m - 1) * n + 2 ≤ 66
    less = omega (arith, mul_few (m - 1) n m n (omega arith) (omega arith), k)

    fourth : m * n * ((m - 1) * n + 2) ≤ 64 * 66
    fourth = mul_few (m * n) ((m - 1) * n + 2) 64 66 k less

module _ (n g m t : ℕ) (ok : IsModulus n g) (two : 2 ≤ m) (low : n ≤ 32) (few_m : m ≤ 64) (small : n * m ≤ 64) (words : List WordText) (has : HasWords Input 2 words) (wide : AllWide (n * m) words) where
  abbrev a : List ℕ
  a = take (n * m) (inputs_in words)

  abbrev b : List ℕ
  b = drop (n * m) (inputs_in words)

  in_a : (net : ℕ) → Has (take (n * m) (inputs_in words)) net → Has (inputs_in words) net
  in_a net there =
      let P : List ℕ → Type 0 = λ v. Has v net in
      subst P (sym (take_drop (inputs_in words) (n * m))) (Has_left a b net there)

  in_b : (net : ℕ) → Has (drop (n * m) (inputs_in words)) net → Has (inputs_in words) net
  in_b net there =
      let P : List ℕ → Type 0 = λ v. Has v net in
      subst P (sym (take_drop (inputs_in words) (n * m))) (Has_right a b net there)

  long_a : length (take (n * m) (inputs_in words)) ≡ n * m
  long_a = take_long 2 (n * m) words has wide (omega arith)

  long_b : length (drop (n * m) (inputs_in words)) ≡ n * m
  long_b = drop_long (n * m) words has wide

  long_z : length (outputs_in words) ≡ n * m
  long_z = outputs_long 2 (n * m) words has wide

  turned_z : length (outputs_in words) ≡ m * n
  turned_z = long_z ∙ mul_comm n m

  out : IsMadeOutput (outer_of words) (inputs_in words) (outer_of words) (m * m * (n * n + n * (n * n + 1)) + (2 * m - 1) * n * (m + 1) + m * n * ((m - 1) * n + 2)) (outputs_in words) (plan_of_words n g m t words)
  out = composite_made (outer_of words) (inputs_in words) n g m ok.some two a b long_a long_b in_a in_b t (outputs_in words) turned_z (λ net there. omega (arith, (role_low Output 0 words net there).1))

  next_few : (plan_of_words n g m t words).next ≤ outer_of words + 151808
  next_few = omega (arith, out.high, most_few n m low few_m small)

  few : (plan_of_words n g m t words).next + n * m ≤ 2 ^ 20
  few =
      let outer : outer_of words ≡ length words * (n * m) = names_long (n * m) words wide in
      let three : length words * (n * m) ≡ 3 * (n * m) = ap (λ c. c * (n * m)) has.all in
      omega (arith, next_few, outer, three, small)

  pub fits : IsPlanFor words [] [] (outputs_in words) (plan_of_words n g m t words)
  fits = plan_for 2 (n * m) words has wide (plan_of_words n g m t words) out.made few

  module _ (names : AreMakerNames (outer_names words [])) where
    pub sound : IsSound (made_composite n g m t words)
    sound = made_sound words [] [] (outputs_in words) (plan_of_words n g m t words) names fits

    pub text : length (written (made_composite n g m t words)) ≤ most_bytes
    text =
        text_fits 2 (n * m) words has wide small (plan_of_words n g m t words) fits (omega arith) names
        (short_plan 2 (n * m) words has wide small (plan_of_words n g m t words) fits (composite_two (outer_of words) n g m t a b (outputs_in words)) (omega (arith, next_few)))

    pub plain : HasPlainNames (made_composite n g m t words)
    plain = made_plain words [] [] (outputs_in words) (plan_of_words n g m t words) names fits

    pub computes : HasTowerBits n g m t → IsRing (n * m) (product n m (product 1 n bit_mul g) t) → HasNoZeroDivisors (n * m) (product n m (product 1 n bit_mul g) t) → ComputesOfTwo (n * m) (product n m (product 1 n bit_mul g) t) (made_composite n g m t words) words (first_values (n * m) (λ i. 2 ^ i)) 0 (product n m (product 1 n bit_mul g) t)
    computes tower ring field =
        computes_two (n * m) (product n m (product 1 n bit_mul g) t) ring field (made_composite n g m t words) sound words (first_values (n * m) (λ i. 2 ^ i)) (powers_basis (n * m)) 0 wide ring.some small (product n m (product 1 n bit_mul g) t) has
        (made_binds words [] [] (outputs_in words) (plan_of_words n g m t words) names fits [] [] (held 2 (n * m) words has wide) refl (λ net there. absurd (let got = there.1 in cc)))
        each
      where
        each : (bits : List Bool) → IsConsistent (made_composite n g m t words) bits → (x y e : ℕ) → x < 2 ^ (n * m) → y < 2 ^ (n * m) → AreBits (first_values (n * m) (λ i. 2 ^ i)) x (index_of bits (take (n * m) (inputs_in words))) → AreBits (first_values (n * m) (λ i. 2 ^ i)) y (index_of bits (drop (n * m) (inputs_in words))) → AreBits (first_values (n * m) (λ i. 2 ^ i)) e (index_of bits (outputs_in words)) → e ≡ product n m (product 1 n bit_mul g) t x y
        each bits consistent x y e x_low y_low x_is y_is e_is =
            let P : ℕ → Type 0 = λ v. HaveBits bits a v in
            let Q : ℕ → Type 0 = λ v. HaveBits bits b v in
            let have_a : HaveBits bits a x = subst P (sym (poly_element (n * m) x (index_of bits a) x_is)) (index_bits bits a) in
            let have_b : HaveBits bits b y = subst Q (sym (poly_element (n * m) y (index_of bits b) y_is)) (index_bits bits b) in
            let value = composite_bits bits n g m x y ok t tower two x_low y_low (outer_of words) a b (outputs_in words) long_a long_b have_a have_b (agrees_of words (plan_of_words n g m t words) bits consistent) in
            poly_element (n * m) e (index_of bits (outputs_in words)) e_is
            ∙ index_is bits (outputs_in words) (n * m) (product n m (product 1 n bit_mul g) t x y) long_z (ring.closed x y) (λ l less. value l (omega (arith, less, mul_comm n m)))

-- the net over the words of a signature, its names and what it computes, over a tower of these degrees
module _ (n d m s g low : ℕ) (cs : List ℕ) (is_degree : n ≡ d) (is_size : m ≡ s) (ok : IsModulus d g) (list : IsPackedList d s low cs) (words : List WordText) (has : HasWords Input 2 words) (wide : AllWide (n * m) words) where
  abbrev t : ℕ
  t = tower_polynomial n cs

  modulus : IsModulus n g
  modulus = let P : ℕ → Type 0 = λ k. IsModulus k g in subst P (sym is_degree) ok

  packed : IsPackedList n m low cs
  packed =
      let P : ℕ → Type 0 = λ k. IsPackedList k m low cs in
      let Q : ℕ → Type 0 = λ l. IsPackedList d l low cs in
      subst P (sym is_degree) (subst Q (sym is_size) list)

  low_n : n ≤ 32
  low_n = low_few n m packed.two packed.small

  few_m : m ≤ 64
  few_m = size_few n m modulus.some packed.small

  pub tower_fits : IsPlanFor words [] [] (outputs_in words) (plan_of_words n g m (tower_polynomial n cs) words)
  tower_fits = fits n g m t modulus packed.two low_n few_m packed.small words has wide

  module _ (names : AreMakerNames (outer_names words [])) where
    pub tower_sound : IsSound (made_composite n g m (tower_polynomial n cs) words)
    tower_sound = sound n g m t modulus packed.two low_n few_m packed.small words has wide names

    pub tower_text : length (written (made_composite n g m (tower_polynomial n cs) words)) ≤ most_bytes
    tower_text = text n g m t modulus packed.two low_n few_m packed.small words has wide names

    pub tower_plain : HasPlainNames (made_composite n g m (tower_polynomial n cs) words)
    tower_plain = plain n g m t modulus packed.two low_n few_m packed.small words has wide names

    pub tower_computes : HasNoZeroDivisors (d * s) (product d s (product 1 d bit_mul g) (tower_polynomial d cs)) → ComputesOfTwo (n * m) (product n m (product 1 n bit_mul g) (tower_polynomial n cs)) (made_composite n g m (tower_polynomial n cs) words) words (first_values (n * m) (λ i. 2 ^ i)) 0 (product n m (product 1 n bit_mul g) (tower_polynomial n cs))
    tower_computes field =
        let P : ℕ → Type 0 = λ k. HasNoZeroDivisors (k * m) (product k m (product 1 k bit_mul g) (tower_polynomial k cs)) in
        let Q : ℕ → Type 0 = λ l. HasNoZeroDivisors (d * l) (product d l (product 1 d bit_mul g) (tower_polynomial d cs)) in
        computes n g m t modulus packed.two low_n few_m packed.small words has wide names (tower_bits n g modulus m low cs packed) (IsRing-tower n m low cs packed (product 1 n bit_mul g) (IsRing-from_modulus n g modulus)) (subst P (sym is_degree) (subst Q (sym is_size) field))
