-- Parities of the bits that two numbers share, and the mask that gives the trace.
use Rattle.std.proofs.Common.{◌≡◌, ℕ, zero, suc, refl, sym, ◌∙◌, ap, ap₂, ◌<◌, ◌≤◌, ◌^◌, ◌+◌, ◌*◌, ◌/◌, ◌%◌, inl, inr, arith, pow-suc, pow_pos, zero-add, zero-mul, one-mul, mul-one, List, [], ◌∷◌, length, get_or, drop, drop-cons, length-drop, bit_or}
use Rattle.std.specs.Prelude.{bit_xor, bit_and, count_ones}
use Rattle.std.specs.Int.Bits.{xor_self, xor_shr, xor_mod, xor_zero_l, xor_zero_r, and_zero_l, and_zero_r, and_mod, and_shr, or_shifted}
use Rattle.std.proofs.lemmas.Nat.{and_comm, shl_whole}
use lib.Count.{ones, ones_step}
use native.Mathlib.Nat.{mod-eq_of_lt}
use Rattle.lists.specs.laws.NumberLaws.{bit_cases, lowest_of, rest_of_bits}
use Rattle.lists.specs.laws.XorLaws.{xor_cross, bit_times}
use Rattle.gf_field.specs.Ring.{IsRing}
use Rattle.gf_field.specs.Trace.{frobenius, trace}
use Rattle.gf_field.specs.laws.RingLaws.{square-xor}
use Rattle.irreducible.specs.Span.{combination}
use Rattle.irreducible.specs.laws.SpanLaws.{combination_below}
use Rattle.irreducible.specs.laws.AdditiveLaws.{combination-additive}
use Rattle.gf_basis.specs.private.TraceWord.{parity, parity_word}

and_bits : (p q : ℕ) → p < 2 → q < 2 → bit_and p q ≡ q * p
and_bits p q hp hq = elim (bit_cases p hp) [
  | inl z ↦ rw (z) (and_zero_l q ∙ sym (omega arith))
  | inr o ↦ elim (bit_cases q hq) [
    | inl z ↦ rw (z) (and_zero_r p ∙ sym (zero-mul p))
    | inr e ↦ rw (o, e) refl
  ]
]

-- a bit before a count
bit_first : (b n : ℕ) → b < 2 → (b + n) % 2 ≡ bit_xor b (n % 2)
bit_first b n h = elim (bit_cases b h) [
  | inl z ↦ rw (z, zero-add) (sym (xor_zero_l (n % 2)))
  | inr o ↦ elim (bit_cases (n % 2) (omega arith)) [
    | inl e ↦ let is : (1 + n) % 2 ≡ 1 = omega arith in rw (o, e) is
    | inr e ↦ let is : (1 + n) % 2 ≡ 0 = omega arith in rw (o, e) is
  ]
]

product_of_bits : (p q : ℕ) → p < 2 → q < 2 → q * p < 2
product_of_bits p q hp hq = elim (bit_cases q hq) [ inl z ↦ rw (z, zero-mul) (omega arith) | inr o ↦ rw (o, one-mul) hp ]

-- by the lowest bits and the others
pub parity_cons : (v y : ℕ) → parity v y ≡ bit_xor (y % 2 * (v % 2)) (parity (v / 2) (y / 2))
parity_cons v y =
    ap (λ n. n % 2) (ones_step (bit_and v y) ∙ ap₂ (λ p q. p + count_ones q) (and_mod v y 1 ∙ and_bits (v % 2) (y % 2) (omega arith) (omega arith)) (and_shr v y 1))
    ∙ bit_first (y % 2 * (v % 2)) (count_ones (bit_and (v / 2) (y / 2))) (product_of_bits (v % 2) (y % 2) (omega arith) (omega arith))

parity_none : (v : ℕ) → parity v 0 ≡ 0
unfolding ones
parity_none v = ap (λ n. count_ones n % 2) (and_zero_r v)

pub parity_comm : (v y : ℕ) → parity v y ≡ parity y v
parity_comm v y = ap (λ n. count_ones n % 2) (and_comm v y)

pub parity_below : (v y : ℕ) → parity v y < 2
parity_below v y = omega arith

-- the parity of a sum, of numbers of n bits
pub parity-xor : (n v a b : ℕ) → a < 2 ^ n → b < 2 ^ n → parity v (bit_xor a b) ≡ bit_xor (parity v a) (parity v b)
parity-xor zero v a b ha hb =
    let a_is : a ≡ 0 = omega arith in let b_is : b ≡ 0 = omega arith in
    ap₂ (λ x y. parity v (bit_xor x y)) a_is b_is ∙ ap (parity v) (xor_self 0) ∙ parity_none v
    ∙ sym (ap₂ bit_xor (ap (parity v) a_is ∙ parity_none v) (ap (parity v) b_is ∙ parity_none v) ∙ xor_self 0)
parity-xor (suc n) v a b ha hb =
    parity_cons v (bit_xor a b)
    ∙ ap₂ bit_xor (ap (λ x. x * (v % 2)) (xor_mod a b 1) ∙ bit_times (a % 2) (b % 2) (v % 2) (omega arith) (omega arith))
    (ap (parity (v / 2)) (xor_shr a b 1) ∙ parity-xor n (v / 2) (a / 2) (b / 2) (omega (arith, pow-suc 2 n)) (omega (arith, pow-suc 2 n)))
    ∙ xor_cross (a % 2 * (v % 2)) (b % 2 * (v % 2)) (parity (v / 2) (a / 2)) (parity (v / 2) (b / 2))
    ∙ sym (ap₂ bit_xor (parity_cons v a) (parity_cons v b))

parity_times : (v b s : ℕ) → b < 2 → parity v (b * s) ≡ b * parity v s
parity_times v b s h = elim (bit_cases b h) [
  | inl z ↦ ap (λ x. parity v (x * s)) z ∙ ap (parity v) (zero-mul s) ∙ parity_none v ∙ sym (ap (λ x. x * parity v s) z ∙ zero-mul (parity v s))
  | inr o ↦ ap (λ x. parity v (x * s)) o ∙ ap (parity v) (one-mul s) ∙ sym (ap (λ x. x * parity v s) o ∙ one-mul (parity v s))
]

pub parity_word_below : (rows : List ℕ) (v : ℕ) → parity_word rows v < 2 ^ length rows
parity_word_below [] v = omega arith
parity_word_below (r ∷ rows) v = let h : parity_word rows v < 2 ^ length rows = parity_word_below rows v in let t : parity v r < 2 = parity_below v r in omega (arith, pow-suc 2 (length rows))

-- a sum of rows has the parity that its choice has with the word of the rows' parities
pub parity-parity_word : (n v : ℕ) (rows : List ℕ) (y : ℕ) → ((i : ℕ) → i < length rows → get_or rows i 0 < 2 ^ n) → y < 2 ^ length rows → parity (parity_word rows v) y ≡ parity v (combination rows y)
parity-parity_word n v [] y inside h = let none : y ≡ 0 = omega arith in ap (parity 0) none ∙ parity_none 0 ∙ sym (parity_none v)
parity-parity_word n v (r ∷ rows) y inside h =
    parity_cons (parity_word rows v * 2 + parity v r) y
    ∙ ap₂ bit_xor (ap (λ t. y % 2 * t) (lowest_of (parity_word rows v) (parity v r) (parity_below v r)) ∙ sym (parity_times v (y % 2) r (omega arith)))
    (ap (λ w. parity w (y / 2)) (rest_of_bits (parity_word rows v) (parity v r) (parity_below v r)) ∙ parity-parity_word n v rows (y / 2) (λ i l. inside (suc i) (omega arith)) (omega (arith, pow-suc 2 (length rows))))
    ∙ sym (parity-xor n v (y % 2 * r) (combination rows (y / 2)) (first (y % 2) (omega arith)) (combination_below rows n (y / 2) (λ i l. inside (suc i) (omega arith))))
  where
    first : (b : ℕ) → b < 2 → b * r < 2 ^ n
    first zero l = rw (zero-mul r) (pow_pos n)
    first (suc zero) l = rw (one-mul r) (inside 0 (omega arith))
    first (suc (suc b)) l = absurd (omega arith)

-- the word from its last row on
pub parities_step : (rows : List ℕ) (v i w t : ℕ) → length rows ≤ 64 → suc i ≤ length rows → w ≡ parity_word (drop (suc i) rows) v → t ≡ parity v (get_or rows i 0) → bit_or (w * 2 % 2 ^ 64) t ≡ parity_word (drop i rows) v
parities_step rows v i w t few h is t_is =
    ap (λ y. bit_or y t) (shl_whole w (length (drop (suc i) rows)) 1 64 (rw (is) (parity_word_below (drop (suc i) rows) v)) (omega (arith, length-drop (suc i) rows)))
    ∙ or_shifted w 1 t (rw (t_is) (parity_below v (get_or rows i 0)))
    ∙ ap₂ (λ p q. p * 2 + q) is t_is
    ∙ sym (ap (λ l. parity_word l v) (drop-cons rows i 0 h))

-- ---- the mask of the trace
module _ (k : ℕ) (mul : ℕ → ℕ → ℕ) (ring : IsRing k mul) where
  pub combination_squares : (squares : List ℕ) (y : ℕ) → length squares ≡ k → ((j : ℕ) → j < k → get_or squares j 0 ≡ mul (2 ^ j) (2 ^ j)) → y < 2 ^ k → combination squares y ≡ mul y y
  combination_squares squares y size are h =
      combination-additive squares (λ x. mul x x) (record { sum = square-xor k mul ring }) (λ i l. are i (omega (arith, size))) y
      ∙ ap (λ n. mul (y % 2 ^ n) (y % 2 ^ n)) size ∙ ap (λ x. mul x x) (mod-eq_of_lt h)

  frobenius_of_square : (i y : ℕ) → frobenius mul i (mul y y) ≡ frobenius mul (suc i) y
  unfolding frobenius
  frobenius_of_square zero y = refl
  frobenius_of_square (suc i) y = ap (λ x. mul x x) (frobenius_of_square i y)

  -- what the form of i squares gives, the next form gives of i + 1 squares
  pub form_next : (squares : List ℕ) (form i : ℕ) → length squares ≡ k → ((j : ℕ) → j < k → get_or squares j 0 ≡ mul (2 ^ j) (2 ^ j))
      → ((y : ℕ) → y < 2 ^ k → parity form y ≡ frobenius mul i y % 2) → (y : ℕ) → y < 2 ^ k → parity (parity_word squares form) y ≡ frobenius mul (suc i) y % 2
  form_next squares form i size are before y h =
      parity-parity_word k form squares y (λ j l. rw (are j (omega (arith, size))) (ring.closed (2 ^ j) (2 ^ j))) (rw (size) h)
      ∙ ap (parity form) (combination_squares squares y size are h)
      ∙ before (mul y y) (ring.closed y y)
      ∙ ap (λ x. x % 2) (frobenius_of_square i y)

  pub mask_next : (mask form i m : ℕ) → mask < 2 ^ m → form < 2 ^ m
      → ((y : ℕ) → y < 2 ^ k → parity form y ≡ frobenius mul i y % 2) → ((y : ℕ) → y < 2 ^ k → parity mask y ≡ trace mul i y % 2)
      → (y : ℕ) → y < 2 ^ k → parity (bit_xor mask form) y ≡ trace mul (suc i) y % 2
  unfolding trace
  mask_next mask form i m hm hf forms masks y h =
      parity_comm (bit_xor mask form) y ∙ parity-xor m y mask form hm hf
      ∙ ap₂ bit_xor (parity_comm y mask ∙ masks y h) (parity_comm y form ∙ forms y h)
      ∙ sym (xor_mod (trace mul i y) (frobenius mul i y) 1)

parity_one : (y : ℕ) → parity 1 y ≡ y % 2
parity_one y = parity_cons 1 y ∙ ap₂ bit_xor (mul-one (y % 2)) (parity_comm 0 (y / 2) ∙ parity_none (y / 2)) ∙ xor_zero_r (y % 2)

pub form_first : (mul : ℕ → ℕ → ℕ) (k y : ℕ) → y < 2 ^ k → parity 1 y ≡ frobenius mul 0 y % 2
unfolding frobenius
form_first mul k y h = parity_one y

pub mask_first : (mul : ℕ → ℕ → ℕ) (k y : ℕ) → y < 2 ^ k → parity 0 y ≡ trace mul 0 y % 2
unfolding trace
mask_first mul k y h = parity_comm 0 y ∙ parity_none y
