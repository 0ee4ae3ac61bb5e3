-- Normal bases: squaring turns the coordinates by one place.
use Rattle.std.proofs.Common.{◌≡◌, ℕ, zero, suc, ◌<◌, ◌≤◌, ◌^◌, ◌+◌, ◌-◌, ◌%◌, sym, refl, ◌∙◌, ap, ap₂, subst, arith, mod-lt, pow_pos, Bool, length, get_or}
use Rattle.std.specs.Prelude.{bit_xor, ◌==◌, ◌&&◌}
use Rattle.std.specs.Int.{bit_at}
use Rattle.std.specs.Int.Bits.{xor_comm, xor_lt, xor_mod}
use native.Mathlib.Nat.{mod-eq_of_lt}
use Rattle.std.proofs.Math.Nat.{zero-add, suc-add}
use Rattle.lists.specs.laws.NumberLaws.{suc_less_one}
use Rattle.lists.specs.laws.XorLaws.{bit_at-sum}
use Rattle.gf_basis.proofs.CodeLaws.{length-first_values, get_or-first_values}
use Rattle.gf_field.specs.Ring.{IsRing}
use Rattle.gf_field.specs.Field.{HasNoZeroDivisors}
use Rattle.gf_field.specs.Polynomial.{sum_of_first}
use Rattle.gf_field.specs.Trace.{frobenius}
use Rattle.gf_field.specs.laws.RingLaws.{square-xor}
use Rattle.gf_field.specs.laws.FermatLaws.{power_same}
use Rattle.gf_field.specs.laws.TraceLaws.{frobenius-power, frobenius-mul}
use Rattle.irreducible.specs.Span.{combination}
use Rattle.irreducible.specs.laws.SpanLaws.{combination-xor}
use Rattle.irreducible.specs.laws.AdditiveLaws.{IsAdditive}
use Rattle.gf_basis.specs.Basis.{IsBasis, AreBits, HasOnlyBits}
use Rattle.gf_basis.specs.BasisFault.{conjugates_of}
use Rattle.gf_field.proofs.SharedLemmas.{same_sum, sum_open}
use Rattle.make_laws.specs.Chosen.{chosen, sum_of_chosen}
use Rattle.make_laws.specs.NormalRegisters.{turned, normal_element, HoldNormalPlaces, HoldNormalProducts}
use Rattle.make_laws.proofs.BitNumber.{number_of_bits}
use Rattle.make_laws.proofs.ChosenLemmas.{chosen_one, chosen_same, chosen_sum_additive, product_of_sums, number_below, number_bit, number_again, combination-chosen}

-- the element of a number's bits in the normal basis
pub combination_normal : (k : ℕ) (mul : ℕ → ℕ → ℕ) (gamma : ℕ) (a : ℕ → Bool) → combination (conjugates_of k mul gamma) (number_of_bits k a) ≡ normal_element k mul gamma a
combination_normal k mul gamma a =
    let long : length (conjugates_of k mul gamma) ≡ k = length-first_values k (λ i. frobenius mul i gamma) in
    ap (λ n. combination (conjugates_of k mul gamma) (number_of_bits n a)) (sym long)
    ∙ combination-chosen (conjugates_of k mul gamma) a
    ∙ ap (λ n. sum_of_chosen n a (λ i. get_or (conjugates_of k mul gamma) i 0)) long
    ∙ same_sum k (λ i. chosen (a i) (get_or (conjugates_of k mul gamma) i 0)) (λ i. chosen (a i) (frobenius mul i gamma)) (λ i h. ap (chosen (a i)) (get_or-first_values k (λ i. frobenius mul i gamma) i h))

-- a sum over values that come again after m + 1 places, with the bits turned
sum_turned : (m : ℕ) (a : ℕ → Bool) (f : ℕ → ℕ) → f (suc m) ≡ f 0 → sum_of_chosen (suc m) (turned (suc m) a) f ≡ sum_of_chosen (suc m) a (λ i. f (suc i))
sum_turned m a f again =
    sum_open m (λ i. chosen (turned (suc m) a i) (f i))
    ∙ xor_comm (chosen (a (suc m - 1)) (f 0)) (sum_of_chosen m a (λ i. f (suc i)))
    ∙ ap (bit_xor (sum_of_chosen m a (λ i. f (suc i)))) (ap₂ (λ i x. chosen (a i) x) (suc_less_one m) (sym again))

module _ (k : ℕ) (mul : ℕ → ℕ → ℕ) (ring : IsRing k mul) (field : HasNoZeroDivisors k mul) (gamma : ℕ) (inside : gamma < 2 ^ k) where
  -- the element of these bits in the normal basis
  pub normal_sum : (ℕ → Bool) → ℕ
  normal_sum a = sum_of_chosen k a (λ i. frobenius mul i gamma)

  IsAdditive-square : IsAdditive (λ x. mul x x)
  IsAdditive-square = record { sum = square-xor k mul ring }

  square_sum : (a : ℕ → Bool) → mul (normal_sum a) (normal_sum a) ≡ sum_of_chosen k a (λ i. frobenius mul (suc i) gamma)
  unfolding normal_sum frobenius
  square_sum a = chosen_sum_additive (λ x. mul x x) IsAdditive-square k a (λ i. frobenius mul i gamma)

  again : frobenius mul k gamma ≡ gamma
  again = frobenius-power k mul ring k gamma inside ∙ power_same k mul ring field gamma inside

  -- the element of the bits turned by one place is the square
  pub turned_square : (a : ℕ → Bool) → normal_sum (turned k a) ≡ mul (normal_sum a) (normal_sum a)
  unfolding normal_sum frobenius
  turned_square a = by k ring.some again ∙ sym (square_sum a)
    where
      by : (n : ℕ) → 1 ≤ n → frobenius mul n gamma ≡ gamma → sum_of_chosen n (turned n a) (λ i. frobenius mul i gamma) ≡ sum_of_chosen n a (λ i. frobenius mul (suc i) gamma)
      by zero some h = absurd (omega arith)
      by (suc m) some h = sum_turned m a (λ i. frobenius mul i gamma) h

  module _ (bits : ℕ → ℕ) (basis : IsBasis k (conjugates_of k mul gamma)) (are : (x : ℕ) → x < 2 ^ k → AreBits (conjugates_of k mul gamma) x (bits x)) where
    -- coordinate i of x
    pub coordinate : ℕ → ℕ → Bool
    coordinate x i = bit_at (bits x) i == 1

    bits_below : (x : ℕ) → x < 2 ^ k → bits x < 2 ^ k
    bits_below x h = subst (λ (n : ℕ). bits x < 2 ^ n) (length-first_values k (λ i. frobenius mul i gamma)) (are x h).short

    -- the coordinates are the only bits with this element
    only_bits : (x d : ℕ) → x < 2 ^ k → d < 2 ^ k → combination (conjugates_of k mul gamma) d ≡ x → d ≡ bits x
    only_bits x d h short is =
        let only : HasOnlyBits (conjugates_of k mul gamma) x = basis.sums x h in
        only.only d (record { short = subst (λ (n : ℕ). d < 2 ^ n) (sym (length-first_values k (λ i. frobenius mul i gamma))) short; is = is })
        ∙ sym (only.only (bits x) (are x h))

    pub coordinates_are : (x : ℕ) (a : ℕ → Bool) → x < 2 ^ k → normal_sum a ≡ x → (i : ℕ) → i < k → coordinate x i ≡ a i
    unfolding coordinate normal_sum
    coordinates_are x a h is i less =
        ap (λ d. bit_at d i == 1) (sym (only_bits x (number_of_bits k a) h (number_below k a) (combination_normal k mul gamma a ∙ is)))
        ∙ number_bit k a i less

    pub sum_of_coordinates : (x : ℕ) → x < 2 ^ k → normal_sum (coordinate x) ≡ x
    unfolding normal_sum coordinate
    sum_of_coordinates x h =
        chosen_same k (λ i. bit_at (bits x) i == 1) (λ i. bit_at (bits x) i == 1) (λ i. frobenius mul i gamma) (λ i less. refl)
        ∙ sym (combination_normal k mul gamma (λ i. bit_at (bits x) i == 1))
        ∙ ap (combination (conjugates_of k mul gamma)) (number_again k (bits x) (bits_below x h))
        ∙ (are x h).is

    -- squaring turns the coordinates by one place
    square_turns : (x i : ℕ) → x < 2 ^ k → i < k → coordinate (mul x x) i ≡ turned k (coordinate x) i
    square_turns x i h less =
        coordinates_are (mul x x) (turned k (coordinate x)) (ring.closed x x)
        (turned_square (coordinate x) ∙ ap (λ y. mul y y) (sum_of_coordinates x h)) i less

    frobenius_inside : (t x : ℕ) → x < 2 ^ k → frobenius mul t x < 2 ^ k
    unfolding frobenius
    frobenius_inside zero x h = h
    frobenius_inside (suc t) x h = ring.closed (frobenius mul t x) (frobenius mul t x)

    -- coordinate i is coordinate t + i of the t-th square
    pub squares_turn : (t x i : ℕ) → x < 2 ^ k → t + i < k → coordinate (frobenius mul t x) (t + i) ≡ coordinate x i
    unfolding frobenius
    squares_turn zero x i h less = ap (coordinate x) (zero-add i)
    squares_turn (suc t) x i h less =
        ap (coordinate (frobenius mul (suc t) x)) (suc-add t i)
        ∙ square_turns (frobenius mul t x) (suc (t + i)) (frobenius_inside t x h) (omega arith)
        ∙ squares_turn t x i h (omega arith)

    -- the number of a coordinate of a product is a sum over all pairs of elements of the basis
    IsAdditive-bit : (l : ℕ) → IsAdditive (λ x. bit_at (bits (x % 2 ^ k)) l)
    IsAdditive-bit l = record { sum = λ x y. ap (λ d. bit_at d l) (both x y) ∙ bit_at-sum (bits (x % 2 ^ k)) (bits (y % 2 ^ k)) l }
      where
        both : (x y : ℕ) → bits (bit_xor x y % 2 ^ k) ≡ bit_xor (bits (x % 2 ^ k)) (bits (y % 2 ^ k))
        both x y =
            let hx : x % 2 ^ k < 2 ^ k = mod-lt x (pow_pos k) in
            let hy : y % 2 ^ k < 2 ^ k = mod-lt y (pow_pos k) in
            ap bits (xor_mod x y k)
            ∙ sym (only_bits (bit_xor (x % 2 ^ k) (y % 2 ^ k)) (bit_xor (bits (x % 2 ^ k)) (bits (y % 2 ^ k))) (xor_lt k (x % 2 ^ k) (y % 2 ^ k) hx hy)
            (xor_lt k (bits (x % 2 ^ k)) (bits (y % 2 ^ k)) (bits_below (x % 2 ^ k) hx) (bits_below (y % 2 ^ k) hy))
            (combination-xor (conjugates_of k mul gamma) (bits (x % 2 ^ k)) (bits (y % 2 ^ k)) ∙ ap₂ bit_xor (are (x % 2 ^ k) hx).is (are (y % 2 ^ k) hy).is))

    pub coordinate_product : (a b : ℕ → Bool) (l : ℕ) → bit_at (bits (mul (normal_sum a) (normal_sum b))) l ≡ sum_of_first k (λ i. sum_of_first k (λ j. chosen (a i && b j) (bit_at (bits (mul (frobenius mul i gamma) (frobenius mul j gamma))) l)))
    unfolding normal_sum
    coordinate_product a b l =
        ap (λ x. bit_at (bits x) l) (sym (mod-eq_of_lt (ring.closed (normal_sum a) (normal_sum b))))
        ∙ product_of_sums k mul ring (λ x. bit_at (bits (x % 2 ^ k)) l) (IsAdditive-bit l) k k a b (λ i. frobenius mul i gamma) (λ i. frobenius mul i gamma)
        ∙ same_sum k (λ i. sum_of_first k (λ j. chosen (a i && b j) (bit_at (bits (mul (frobenius mul i gamma) (frobenius mul j gamma) % 2 ^ k)) l)))
        (λ i. sum_of_first k (λ j. chosen (a i && b j) (bit_at (bits (mul (frobenius mul i gamma) (frobenius mul j gamma))) l)))
        (λ i less. same_sum k (λ j. chosen (a i && b j) (bit_at (bits (mul (frobenius mul i gamma) (frobenius mul j gamma) % 2 ^ k)) l))
        (λ j. chosen (a i && b j) (bit_at (bits (mul (frobenius mul i gamma) (frobenius mul j gamma))) l))
        (λ j less'. ap (λ x. chosen (a i && b j) (bit_at (bits x) l)) (mod-eq_of_lt (ring.closed (frobenius mul i gamma) (frobenius mul j gamma)))))

    -- ---- the registers, cycle by cycle
    -- a and b are turned by one place in each cycle; z takes f at its first place and is moved on by one
    module _ (a b z : ℕ → ℕ → Bool) (f : ℕ → Bool)
        (a_turns : (t i : ℕ) → t < k → i < k → a (suc t) i ≡ turned k (a t) i)
        (b_turns : (t i : ℕ) → t < k → i < k → b (suc t) i ≡ turned k (b t) i)
        (z_takes : (t : ℕ) → t < k → z (suc t) 0 ≡ f t)
        (z_moves : (t i : ℕ) → t < k → suc i < k → z (suc t) (suc i) ≡ z t i)
        (f_is : (t : ℕ) → t < k → chosen (f t) 1 ≡ sum_of_first k (λ i. sum_of_first k (λ j. chosen (a t i && b t j) (bit_at (bits (mul (frobenius mul i gamma) (frobenius mul j gamma))) (k - 1)))))
      where
        turns_to_square : (c : ℕ → ℕ → Bool) → ((t i : ℕ) → t < k → i < k → c (suc t) i ≡ turned k (c t) i) → (t : ℕ) → t ≤ k → normal_sum (c t) ≡ frobenius mul t (normal_sum (c 0))
        unfolding frobenius normal_sum
        turns_to_square c step zero h = refl
        turns_to_square c step (suc t) h =
            chosen_same k (c (suc t)) (turned k (c t)) (λ i. frobenius mul i gamma) (λ i less. step t i (omega arith) less)
            ∙ turned_square (c t)
            ∙ ap (λ x. mul x x) (turns_to_square c step t (omega arith))

        the_product : ℕ
        the_product = mul (normal_sum (a 0)) (normal_sum (b 0))

        f_at : (t : ℕ) → t < k → f t ≡ coordinate the_product (k - suc t)
        unfolding the_product coordinate
        f_at t h =
            sym (chosen_one (f t))
            ∙ ap (λ n. n == 1) (f_is t h ∙ sym (coordinate_product (a t) (b t) (k - 1)))
            ∙ ap (λ x. coordinate x (k - 1)) (ap₂ mul (turns_to_square a a_turns t (omega arith)) (turns_to_square b b_turns t (omega arith)) ∙ sym (frobenius-mul k mul ring t (normal_sum (a 0)) (normal_sum (b 0))))
            ∙ ap (coordinate (frobenius mul t the_product)) (places k t h)
            ∙ squares_turn t the_product (k - suc t) (ring.closed (normal_sum (a 0)) (normal_sum (b 0))) (omega arith)
          where
            places : (k t : ℕ) → t < k → k - 1 ≡ t + (k - suc t)
            places k t h = omega arith

        z_at : (t i : ℕ) → i < t → t ≤ k → z t i ≡ f (t - suc i)
        z_at zero i less h = absurd (omega arith)
        z_at (suc t) zero less h = z_takes t (omega arith) ∙ ap f (first t)
          where
            first : (t : ℕ) → t ≡ suc t - suc 0
            first t = omega arith
        z_at (suc t) (suc i) less h = z_moves t i (omega arith) (omega arith) ∙ z_at t i (omega arith) (omega arith) ∙ ap f (next t i)
          where
            next : (t i : ℕ) → t - suc i ≡ suc t - suc (suc i)
            next t i = omega arith

        -- after t cycles the first t places of z are the last t coordinates of the product
        pub place_after : (t i : ℕ) → t ≤ k → i < t → z t i ≡ (bit_at (bits (mul (normal_sum (a 0)) (normal_sum (b 0)))) (k - t + i) == 1)
        unfolding coordinate the_product
        place_after t i h less = z_at t i less h ∙ f_at (t - suc i) (omega arith) ∙ ap (coordinate the_product) (back k t i h less)
          where
            back : (k t i : ℕ) → t ≤ k → i < t → k - suc (t - suc i) ≡ k - t + i
            back k t i h less = omega arith

        -- after k cycles z is the product of what a and b were
        pub normal_product : normal_sum (z k) ≡ mul (normal_sum (a 0)) (normal_sum (b 0))
        unfolding normal_sum the_product
        normal_product =
            chosen_same k (z k) (coordinate the_product) (λ i. frobenius mul i gamma)
            (λ i less. z_at k i less (omega arith) ∙ f_at (k - suc i) (omega arith) ∙ ap (coordinate the_product) (back k i less))
            ∙ sum_of_coordinates the_product (ring.closed (normal_sum (a 0)) (normal_sum (b 0)))
          where
            back : (k i : ℕ) → i < k → k - suc (k - suc i) ≡ i
            back k i h = omega arith

pub normal_places : (k : ℕ) (mul : ℕ → ℕ → ℕ) → IsRing k mul → HasNoZeroDivisors k mul → HoldNormalPlaces k mul
unfolding normal_sum
normal_places k mul ring field gamma coordinates a b z f t i inside basis are registers early less =
    place_after k mul ring field gamma inside coordinates basis are a b z f registers.a_turns registers.b_turns registers.z_takes registers.z_moves registers.f_sums t i early less

pub normal_products : (k : ℕ) (mul : ℕ → ℕ → ℕ) → IsRing k mul → HasNoZeroDivisors k mul → HoldNormalProducts k mul
unfolding normal_sum
normal_products k mul ring field gamma coordinates a b z f inside basis are registers =
    normal_product k mul ring field gamma inside coordinates basis are a b z f registers.a_turns registers.b_turns registers.z_takes registers.z_moves registers.f_sums
