-- Squares as sums of rows.
use Rattle.std.proofs.Common.{◌≡◌, ℕ, zero, suc, sym, ◌∙◌, ap, ◌<◌, ◌≤◌, ◌^◌, ◌*◌, ◌-◌, ◌/◌, ◌%◌, ◌⊎◌, inl, inr, arith, pow-suc, List, length, get_or, take, drop, length-take, length-drop, get_or-take, get_or-drop, one-add}
use Rattle.std.specs.Prelude.{bit_xor}
use Rattle.std.specs.Int.Bits.{xor_self, xor_zero_r, xor_shifted}
use Rattle.std.proofs.lemmas.Nat.{shr_split}
use native.Mathlib.Nat.{mod-eq_of_lt}
use Rattle.lists.specs.laws.NumberLaws.{bit_cases}
use Rattle.lists.specs.laws.XorLaws.{xor_same, xor_cross}
use Rattle.gf_field.specs.Ring.{IsRing}
use Rattle.gf_field.specs.laws.RingLaws.{mul_zero, mul_one, square-xor}
use Rattle.gf_field.specs.laws.PowerLaws.{one_below}
use Rattle.gf_field.specs.laws.FieldLaws.{IsFieldBySquares, HasNoZeroDivisors-by_squares, IsFieldBySquares-from}
use Rattle.irreducible.specs.Span.{combination, IsIndependent, IsRank}
use Rattle.irreducible.specs.laws.SpanLaws.{IsIndependent-from_rank, rank-from_independent}
use Rattle.gf_field.specs.Field.{HasNoZeroDivisors}
use Rattle.irreducible.specs.laws.AdditiveLaws.{IsAdditive, IsAdditive-double, combination-additive}

module _ (k : ℕ) (mul : ℕ → ℕ → ℕ) (ring : IsRing k mul) where
  IsAdditive-square : IsAdditive (λ a. mul a a)
  IsAdditive-square = record { sum = square-xor k mul ring }

  IsAdditive-moved : IsAdditive (λ a. bit_xor (mul a a) a)
  IsAdditive-moved = record { sum = λ a b. ap (λ x. bit_xor x (bit_xor a b)) (square-xor k mul ring a b) ∙ xor_cross (mul a a) (mul b b) a b }

  module _ (squares moved : List ℕ) (n : length squares ≡ k) (m : suc (length moved) ≡ k)
      (at_square : (i : ℕ) → i < length squares → get_or squares i 0 ≡ mul (2 ^ i) (2 ^ i))
      (at_moved : (i : ℕ) → i < length moved → get_or moved i 0 ≡ bit_xor (mul (2 ^ suc i) (2 ^ suc i)) (2 ^ suc i)) where
    combination-squares : (c : ℕ) → c < 2 ^ length squares → combination squares c ≡ mul c c
    combination-squares c h = combination-additive squares (λ a. mul a a) IsAdditive-square at_square c ∙ ap (λ x. mul x x) (mod-eq_of_lt h)

    combination-moved : (c : ℕ) → c < 2 ^ length moved → combination moved c ≡ bit_xor (mul (c * 2) (c * 2)) (c * 2)
    combination-moved c h =
        combination-additive moved (λ a. bit_xor (mul (a * 2) (a * 2)) (a * 2)) (IsAdditive-double (λ a. bit_xor (mul a a) a) IsAdditive-moved)
        (λ i l. at_moved i l ∙ ap (λ x. bit_xor (mul x x) x) (pow-suc 2 i)) c
        ∙ ap (λ x. bit_xor (mul (x * 2) (x * 2)) (x * 2)) (mod-eq_of_lt h)

    pub IsFieldBySquares-from_rows : IsIndependent squares → IsIndependent moved → IsFieldBySquares k mul
    IsFieldBySquares-from_rows s t = record {
      squares = λ a h e. s.only_zero a (rw n h) (combination-squares a (rw n h) ∙ e);
      idempotents = idem;
    }
      where
        wide : (a : ℕ) → a < 2 ^ k → a / 2 < 2 ^ length moved
        wide a h = let g : a < 2 ^ suc (length moved) = rw m h in omega (arith, pow-suc 2 (length moved))

        move : ℕ → ℕ
        move a = bit_xor (mul a a) a

        move_bit : (b : ℕ) → b < 2 → bit_xor (mul b b) b ≡ 0
        move_bit zero l = xor_zero_r (mul 0 0) ∙ mul_zero k mul ring 0
        move_bit (suc zero) l = ap (λ x. bit_xor x 1) (mul_one k mul ring 1 (one_below k mul ring)) ∙ xor_self 1
        move_bit (suc (suc b)) l = absurd (omega arith)

        parts : (a : ℕ) → bit_xor (a / 2 * 2) (a % 2) ≡ a
        parts a = xor_shifted (a / 2) 1 (a % 2) (omega arith) ∙ shr_split a 1

        half_zero : (a : ℕ) → a < 2 ^ k → mul a a ≡ a → a / 2 ≡ 0
        half_zero a h e = t.only_zero (a / 2) (wide a h)
            (combination-moved (a / 2) (wide a h)
            ∙ sym (xor_zero_r (bit_xor (mul (a / 2 * 2) (a / 2 * 2)) (a / 2 * 2)))
            ∙ ap (bit_xor (bit_xor (mul (a / 2 * 2) (a / 2 * 2)) (a / 2 * 2))) (sym (move_bit (a % 2) (omega arith)))
            ∙ sym (IsAdditive-moved.sum (a / 2 * 2) (a % 2))
            ∙ ap (λ x. bit_xor (mul x x) x) (parts a) ∙ ap (λ x. bit_xor x a) e ∙ xor_self a)

        idem : (a : ℕ) → a < 2 ^ k → mul a a ≡ a → (a ≡ 0) ⊎ (a ≡ 1)
        idem a h e = bit_cases a (let z : a / 2 ≡ 0 = half_zero a h e in omega arith)

    pub IsIndependent-squares : IsFieldBySquares k mul → IsIndependent squares
    IsIndependent-squares f = record { only_zero = λ c h e. f.squares c (rw n at h) (sym (combination-squares c h) ∙ e) }

    pub IsIndependent-moved : IsFieldBySquares k mul → IsIndependent moved
    IsIndependent-moved f = record { only_zero = zero_at }
      where
        wide : (c : ℕ) → c < 2 ^ length moved → c * 2 < 2 ^ k
        wide c h = rw (sym m) (let g : 2 ^ suc (length moved) ≡ 2 ^ length moved * 2 = pow-suc 2 (length moved) in omega arith)

        zero_at : (c : ℕ) → c < 2 ^ length moved → combination moved c ≡ 0 → c ≡ 0
        zero_at c h e = elim (f.idempotents (c * 2) (wide c h) (xor_same (mul (c * 2) (c * 2)) (c * 2) (sym (combination-moved c h) ∙ e))) [
          | inl z ↦ omega arith
          | inr o ↦ absurd (omega arith)
        ]

    pub from_ranks : (r t : ℕ) → IsRank squares r → IsRank moved t → r ≡ k → suc t ≡ k → HasNoZeroDivisors k mul
    from_ranks r t p q e f =
        HasNoZeroDivisors-by_squares k mul ring (IsFieldBySquares-from_rows (IsIndependent-from_rank squares r p (e ∙ sym n)) (IsIndependent-from_rank moved t q (same f m)))
      where
        same : {l : ℕ} → suc t ≡ k → suc l ≡ k → t ≡ l
        same {l} a b = omega arith

    pub to_rank : (r : ℕ) → IsRank squares r → HasNoZeroDivisors k mul → r ≡ k
    to_rank r p field = rank-from_independent squares r p (IsIndependent-squares (IsFieldBySquares-from k mul ring field)) ∙ n

    pub to_rank_moved : (t : ℕ) → IsRank moved t → HasNoZeroDivisors k mul → suc t ≡ k
    to_rank_moved t q field = ap suc (rank-from_independent moved t q (IsIndependent-moved (IsFieldBySquares-from k mul ring field))) ∙ m

  -- the same for the arrays of the code
  module _ (squares moved : List ℕ) (n : length squares ≡ 64) (m : length moved ≡ 64)
      (at_square : (i : ℕ) → i < k → get_or squares i 0 ≡ mul (2 ^ i) (2 ^ i))
      (at_moved : (i : ℕ) → i < k → get_or moved i 0 ≡ bit_xor (mul (2 ^ i) (2 ^ i)) (2 ^ i)) where
    count_squares : length (take k squares) ≡ k
    count_squares = let small : k ≤ 64 = ring.small in omega (arith, length-take k squares)

    count_moved : suc (length (take (k - 1) (drop 1 moved))) ≡ k
    count_moved = let small : k ≤ 64 = ring.small in let some : 1 ≤ k = ring.some in omega (arith, length-take (k - 1) (drop 1 moved), length-drop 1 moved)

    item_square : (i : ℕ) → i < length (take k squares) → get_or (take k squares) i 0 ≡ mul (2 ^ i) (2 ^ i)
    item_square i h = let l : i < k = omega (arith, count_squares) in rw get_or-take (at_square i l)

    item_moved : (i : ℕ) → i < length (take (k - 1) (drop 1 moved)) → get_or (take (k - 1) (drop 1 moved)) i 0 ≡ bit_xor (mul (2 ^ suc i) (2 ^ suc i)) (2 ^ suc i)
    item_moved i h =
        let l : i < k - 1 = omega (arith, count_moved) in
        let w : suc i < k = omega arith in
        rw (get_or-take, get_or-drop, one-add) (at_moved (suc i) w)

    pub field_from : (r t : ℕ) → IsRank (take k squares) r → IsRank (take (k - 1) (drop 1 moved)) t → r ≡ k → t ≡ k - 1 → HasNoZeroDivisors k mul
    field_from r t p q e f = from_ranks (take k squares) (take (k - 1) (drop 1 moved)) count_squares count_moved item_square item_moved r t p q e (let some : 1 ≤ k = ring.some in omega arith)

    pub rank_full : (r : ℕ) → IsRank (take k squares) r → HasNoZeroDivisors k mul → r ≡ k
    rank_full r p field = to_rank (take k squares) (take (k - 1) (drop 1 moved)) count_squares count_moved item_square item_moved r p field

    pub rank_moved : (t : ℕ) → IsRank (take (k - 1) (drop 1 moved)) t → HasNoZeroDivisors k mul → t ≡ k - 1
    rank_moved t q field = let e : suc t ≡ k = to_rank_moved (take k squares) (take (k - 1) (drop 1 moved)) count_squares count_moved item_square item_moved t q field in omega arith
