-- What each bit of a product of polynomials over 0 and 1 adds.
use Rattle.std.proofs.Common.{◌≡◌, ℕ, zero, suc, sym, ◌∙◌, ap, ap₂, ◌<◌, ◌^◌, ◌*◌, ◌/◌, ◌%◌, ◌⊎◌, inl, inr, arith, one-mul, zero-mul, pow_pos, add-zero, subst}
use Rattle.std.specs.Prelude.{bit_xor}
use Rattle.std.specs.Int.Bits.{xor_zero_r, xor_lt}
use mathlib.Core.Path.{fun_ext}
use native.Mathlib.Nat.{mod-eq_of_lt}
use Rattle.lists.specs.laws.NumberLaws.{bit_cases}
use Rattle.gf_field.specs.Modulus.{IsModulus}
use Rattle.gf_field.specs.Bit.{bit_mul}
use Rattle.gf_field.specs.Polynomial.{coefficient, IsProductModulo}
use Rattle.gf_field.specs.laws.ProductLaws.{IsProductModulo-reduced}
use Rattle.gf_field.specs.Quotient.{times, plus, rest, shift, step, reduced, packed, product}
use Rattle.gf_field.specs.laws.QuotientLaws.{EndsAt, AllBelow, step_ends, step_plus, reduced_below, reduced_ends}
use Rattle.gf_field.specs.laws.PackingLaws.{packed_extra, packed_none, coefficient_ends, coefficient_below, packed_xor, coefficient_xor, packed-coefficient, coefficient-packed, packed_below, coefficient_suc, coefficient_zero}
use Rattle.gf_field.specs.private.ShiftAndAdd.{times_x, part}
use Rattle.gf_field.specs.laws.BitLaws.{IsRing-bit_mul, bit_mul_below}
use Rattle.gf_field.specs.laws.ModulusLaws.{modulus_below, IsMonic-from_modulus}

one_times : (f : ℕ → ℕ) → AllBelow 1 f → times bit_mul 1 f ≡ f
one_times f below = fun_ext (λ i. one-mul (f i % 2) ∙ mod-eq_of_lt (below i))

packed_zero_times : (d : ℕ) (f : ℕ → ℕ) → packed 1 d (times bit_mul 0 f) ≡ 0
packed_zero_times d f = ap (packed 1 d) (fun_ext (λ i. zero-mul (f i % 2))) ∙ packed_none 1 d

module _ (e g : ℕ) (ok : IsModulus (suc e) g) where
  last_bit : (a : ℕ) → coefficient 1 a e ≡ a / 2 ^ e % 2
  last_bit a = ap (λ x. a / 2 ^ x % 2) (one-mul e)

  step_packed : (a t : ℕ) → a < 2 ^ suc e → coefficient 1 a e ≡ t → times_x (suc e) g a ≡ bit_xor (a * 2) (packed 1 (suc (suc e)) (times bit_mul t (coefficient 1 g)))
  unfolding times_x
  step_packed a t h is =
      sym (packed_extra 1 (suc e) (step bit_mul e (coefficient 1 g) (coefficient 1 a))
      (step_ends 1 bit_mul IsRing-bit_mul e (coefficient 1 g) (IsMonic-from_modulus (suc e) g ok).leading (IsMonic-from_modulus (suc e) g ok).last (coefficient 1 a) (coefficient_below 1 a) (coefficient_ends 1 (suc e) a (rw one-mul h))))
      ∙ packed_xor 1 (suc (suc e)) (shift (coefficient 1 a)) (times bit_mul (coefficient 1 a e) (coefficient 1 g)) (shift_below a) (λ i. bit_mul_below (coefficient 1 a e) (coefficient 1 g i))
      ∙ ap₂ bit_xor (add-zero (packed 1 (suc e) (coefficient 1 a) * 2) ∙ ap (λ x. x * 2) (packed-coefficient 1 (suc e) a (rw one-mul h))) (ap (λ x. packed 1 (suc (suc e)) (times bit_mul x (coefficient 1 g))) is)
    where
      shift_below : (a : ℕ) → AllBelow 1 (shift (coefficient 1 a))
      shift_below a zero = omega arith
      shift_below a (suc i) = coefficient_below 1 a i

  pub times_x_reduced : (a : ℕ) → a < 2 ^ suc e → a / 2 ^ e % 2 ≡ 1 → times_x (suc e) g a ≡ bit_xor (a * 2) g
  times_x_reduced a h top =
      step_packed a 1 h (last_bit a ∙ top)
      ∙ ap (bit_xor (a * 2)) (ap (packed 1 (suc (suc e))) (one_times (coefficient 1 g) (coefficient_below 1 g)) ∙ packed-coefficient 1 (suc (suc e)) g (rw one-mul (modulus_below (suc e) g ok)))

  pub times_x_doubled : (a : ℕ) → a < 2 ^ suc e → a / 2 ^ e % 2 ≡ 0 → times_x (suc e) g a ≡ a * 2
  times_x_doubled a h top =
      step_packed a 0 h (last_bit a ∙ top)
      ∙ ap (bit_xor (a * 2)) (packed_zero_times (suc (suc e)) (coefficient 1 g)) ∙ xor_zero_r (a * 2)

  pub times_x_below : (a : ℕ) → times_x (suc e) g a < 2 ^ suc e
  unfolding times_x
  times_x_below a = subst (λ (x : ℕ). packed 1 (suc e) (step bit_mul e (coefficient 1 g) (coefficient 1 a)) < 2 ^ x) (one-mul (suc e)) (packed_below 1 (suc e) (step bit_mul e (coefficient 1 g) (coefficient 1 a)) (below a))
    where
      below : (a : ℕ) → AllBelow 1 (step bit_mul e (coefficient 1 g) (coefficient 1 a))
      below a zero = xor_lt 1 _ _ (pow_pos 1) (bit_mul_below (coefficient 1 a e) (coefficient 1 g 0))
      below a (suc j) = xor_lt 1 _ _ (coefficient_below 1 a j) (bit_mul_below (coefficient 1 a e) (coefficient 1 g (suc j)))

  -- the coefficients of `part`
  bits_of : (m u v : ℕ) → ℕ → ℕ
  bits_of m u v = reduced bit_mul e (coefficient 1 g) m (coefficient 1 u) (coefficient 1 v)

  bits_below : (m u v : ℕ) → AllBelow 1 (bits_of m u v)
  unfolding bits_of
  bits_below m u v = reduced_below 1 bit_mul IsRing-bit_mul e (coefficient 1 g) m (coefficient 1 u) (coefficient 1 v) (coefficient_below 1 v)

  bits_end : (m u v : ℕ) → v < 2 ^ suc e → EndsAt (suc e) (bits_of m u v)
  unfolding bits_of
  bits_end m u v h =
      reduced_ends 1 bit_mul IsRing-bit_mul e (coefficient 1 g) (IsMonic-from_modulus (suc e) g ok).leading (IsMonic-from_modulus (suc e) g ok).last m (coefficient 1 u) (coefficient 1 v)
      (coefficient_below 1 v) (coefficient_ends 1 (suc e) v (rw one-mul h))

  pub part_none : (u v : ℕ) → part (suc e) g 0 u v ≡ 0
  unfolding part
  part_none u v = packed_none 1 (suc e)

  pub part_below : (m u v : ℕ) → part (suc e) g m u v < 2 ^ suc e
  unfolding part bits_of
  part_below m u v = rw one-mul at (packed_below 1 (suc e) (bits_of m u v) (bits_below m u v))

  rest_bits : (u : ℕ) → rest (coefficient 1 u) ≡ coefficient 1 (u / 2)
  rest_bits u = fun_ext (coefficient_suc 1 u)

  step_below : (f : ℕ → ℕ) → AllBelow 1 f → AllBelow 1 (step bit_mul e (coefficient 1 g) f)
  step_below f h zero = xor_lt 1 _ _ (pow_pos 1) (bit_mul_below (f e) (coefficient 1 g 0))
  step_below f h (suc j) = xor_lt 1 _ _ (h j) (bit_mul_below (f e) (coefficient 1 g (suc j)))

  bits_open : (m u v : ℕ) → bits_of (suc m) u v ≡ plus (times bit_mul (u % 2) (coefficient 1 v)) (step bit_mul e (coefficient 1 g) (bits_of m (u / 2) v))
  unfolding bits_of
  bits_open m u v =
      ap₂ (λ x f. plus (times bit_mul x (coefficient 1 v)) (step bit_mul e (coefficient 1 g) (reduced bit_mul e (coefficient 1 g) m f (coefficient 1 v)))) (coefficient_zero 1 u) (rest_bits u)

  part_open : (m u v : ℕ) → v < 2 ^ suc e → part (suc e) g (suc m) u v ≡ bit_xor (packed 1 (suc e) (times bit_mul (u % 2) (coefficient 1 v))) (times_x (suc e) g (part (suc e) g m (u / 2) v))
  unfolding part bits_of times_x
  part_open m u v hv =
      ap (packed 1 (suc e)) (bits_open m u v)
      ∙ packed_xor 1 (suc e) (times bit_mul (u % 2) (coefficient 1 v)) (step bit_mul e (coefficient 1 g) (bits_of m (u / 2) v))
      (λ j. bit_mul_below (u % 2) (coefficient 1 v j))
      (step_below (bits_of m (u / 2) v) (bits_below m (u / 2) v))
      ∙ ap (λ f. bit_xor (packed 1 (suc e) (times bit_mul (u % 2) (coefficient 1 v))) (packed 1 (suc e) (step bit_mul e (coefficient 1 g) f)))
      (sym (fun_ext (coefficient-packed 1 (suc e) (bits_of m (u / 2) v) (bits_below m (u / 2) v) (bits_end m (u / 2) v hv))))

  -- one more coefficient
  pub part_next : (m u v : ℕ) → v < 2 ^ suc e → part (suc e) g (suc m) u v ≡ bit_xor (u % 2 * v) (times_x (suc e) g (part (suc e) g m (u / 2) v))
  part_next m u v hv = part_open m u v hv ∙ ap (λ x. bit_xor x (times_x (suc e) g (part (suc e) g m (u / 2) v))) (first (u % 2) (bit_cases (u % 2) (omega arith)))
    where
      first : (t : ℕ) → (t ≡ 0) ⊎ (t ≡ 1) → packed 1 (suc e) (times bit_mul t (coefficient 1 v)) ≡ t * v
      first t (inl z) = rw (z) (packed_zero_times (suc e) (coefficient 1 v) ∙ sym (zero-mul v))
      first t (inr o) = rw (o) (ap (packed 1 (suc e)) (one_times (coefficient 1 v) (coefficient_below 1 v)) ∙ packed-coefficient 1 (suc e) v (rw one-mul hv) ∙ sym (one-mul v))

  -- all coefficients make the product
  pub part_end : (a b : ℕ) → a < 2 ^ suc e → b < 2 ^ suc e → part (suc e) g (suc e) a b ≡ product 1 (suc e) bit_mul g a b
  unfolding part product
  part_end a b ha hb =
      ap₂ (λ x y. packed 1 (suc e) (reduced bit_mul e (coefficient 1 g) (suc e) (coefficient 1 x) (coefficient 1 y))) (sym (mod-eq_of_lt (rw one-mul ha))) (sym (mod-eq_of_lt (rw one-mul hb)))

  pub IsProductModulo-part : (m u v : ℕ) → u < 2 ^ m → v < 2 ^ suc e → IsProductModulo 1 (suc e) bit_mul g u v (part (suc e) g m u v)
  unfolding part
  IsProductModulo-part m u v hu hv = IsProductModulo-reduced 1 bit_mul IsRing-bit_mul e g (IsMonic-from_modulus (suc e) g ok) m u v (coefficient_ends 1 m u (rw one-mul hu)) (rw one-mul hv)

  pub times_x-xor : (a b : ℕ) → times_x (suc e) g (bit_xor a b) ≡ bit_xor (times_x (suc e) g a) (times_x (suc e) g b)
  unfolding times_x
  times_x-xor a b =
      ap (λ f. packed 1 (suc e) (step bit_mul e (coefficient 1 g) f)) (fun_ext (coefficient_xor 1 a b))
      ∙ ap (packed 1 (suc e)) (step_plus 1 bit_mul IsRing-bit_mul e (coefficient 1 g) (coefficient 1 a) (coefficient 1 b))
      ∙ packed_xor 1 (suc e) (step bit_mul e (coefficient 1 g) (coefficient 1 a)) (step bit_mul e (coefficient 1 g) (coefficient 1 b))
      (step_below (coefficient 1 a) (coefficient_below 1 a)) (step_below (coefficient 1 b) (coefficient_below 1 b))
