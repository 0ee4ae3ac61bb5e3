-- The roots of the base's modulus, which lie in the subfield of 2 to the n elements.
use Rattle.std.proofs.Common.{◌≡◌, ℕ, zero, suc, refl, sym, ◌∙◌, ap, ◌<◌, ◌≤◌, ◌^◌, ◌+◌, ◌*◌, ◌%◌, inl, inr, arith, subst, one-mul, add-zero, add-suc, le_trans}
use Rattle.std.specs.Int.Bits.{xor_mod}
use Rattle.std.proofs.lemmas.Nat.{pow_below}
use native.Mathlib.Nat.{mod-eq_of_lt}
use Rattle.std.proofs.Math.Nat.{zero-mul}
use Rattle.lists.specs.laws.NumberLaws.{bit_cases, twice_is_sum}
use mathlib.Core.Path.{fun_ext}
use Rattle.gf_field.specs.Ring.{IsRing}
use Rattle.gf_field.specs.Bit.{bit_mul}
use Rattle.gf_field.specs.laws.BitLaws.{bit_mul_below, IsRing-bit_mul}
use Rattle.gf_field.specs.Field.{HasNoZeroDivisors}
use Rattle.gf_field.specs.laws.ModulusLaws.{IsMonic-from_modulus, IsRing-from_modulus}
use Rattle.gf_field.specs.Power.{power}
use Rattle.gf_field.specs.laws.PowerLaws.{one_below}
use Rattle.gf_field.specs.Polynomial.{coefficient}
use Rattle.gf_field.specs.Quotient.{product}
use Rattle.gf_field.specs.laws.RingLaws.{zero_mul}
use Rattle.gf_field.specs.laws.PackingLaws.{coefficient_below, self_below}
use Rattle.gf_field.specs.laws.PigeonholeLaws.{FoundAt}
use Rattle.gf_field.specs.laws.FermatLaws.{power_same}
use Rattle.gf_field.specs.Trace.{frobenius}
use Rattle.gf_field.specs.laws.TraceLaws.{frobenius-power}
use Rattle.gf_iso.specs.Root.{value_at}
use Rattle.gf_iso.specs.private.Fields.{IsBaseField}
use Rattle.gf_iso.proofs.CarriedLaws.{IsCarried}
use Rattle.gf_iso.proofs.RootLaws.{root_found, root_same, line_root, line_root_is}

pub frobenius_add : (mul : ℕ → ℕ → ℕ) (i j a : ℕ) → frobenius mul (j + i) a ≡ frobenius mul i (frobenius mul j a)
unfolding frobenius
frobenius_add mul zero j a = ap (λ m. frobenius mul m a) (add-zero j)
frobenius_add mul (suc i) j a = ap (λ m. frobenius mul m a) (add-suc j i) ∙ ap (λ z. mul z z) (frobenius_add mul i j a)

-- 0 and 1 go to 0 and 1
pub IsCarried-bit : (k : ℕ) (big : ℕ → ℕ → ℕ) → IsRing k big → IsCarried bit_mul k big (λ b. b % 2)
IsCarried-bit k big ring = record {
  below = λ a. short (a % 2) (omega arith);
  sum = λ a b. xor_mod a b 1;
  product = λ a b. mod-eq_of_lt (bit_mul_below a b) ∙ at (a % 2) (b % 2) (omega arith) (omega arith);
  one = refl;
}
  where
    short : (a : ℕ) → a < 2 → a < 2 ^ k
    short a h = let one : 1 < 2 ^ k = one_below k big ring in omega arith

    at : (a b : ℕ) → a < 2 → b < 2 → a * b ≡ big a b
    at a b ha hb = elim (bit_cases a ha) [
      | inl z ↦ rw z (zero-mul b ∙ sym (zero_mul k big ring b))
      | inr o ↦ rw o (one-mul b ∙ sym (ring.one b (short b hb)))
    ]

-- a bit is what it is carried over to
pub bits_same : (u : ℕ) → (λ i. coefficient 1 u i % 2) ≡ coefficient 1 u
bits_same u = fun_ext (λ i. mod-eq_of_lt (coefficient_below 1 u i))

module _ (n g : ℕ) (base : IsBaseField n g) (k : ℕ) (big : ℕ → ℕ → ℕ) (ring : IsRing k big) (field : HasNoZeroDivisors k big) (double : k ≡ n * 2) where
  ring_below : IsRing n (product 1 n bit_mul g)
  ring_below = IsRing-from_modulus n g base.modulus

  power_of_frobenius : (x : ℕ) → x < 2 ^ n → power (product 1 n bit_mul g) x (2 ^ n) ≡ x
  power_of_frobenius x h = power_same n (product 1 n bit_mul g) ring_below base.field x h

  frobenius_fixed : (x : ℕ) → x < 2 ^ n → frobenius (product 1 n bit_mul g) n x ≡ x
  frobenius_fixed x h = frobenius-power n (product 1 n bit_mul g) ring_below n x h ∙ power_of_frobenius x h

  power_of_big : (x : ℕ) → x < 2 ^ n → power (product 1 n bit_mul g) x (2 ^ k) ≡ x
  power_of_big x h =
      sym (frobenius-power n (product 1 n bit_mul g) ring_below k x h)
      ∙ ap (λ m. frobenius (product 1 n bit_mul g) m x) (double ∙ twice_is_sum n)
      ∙ frobenius_add (product 1 n bit_mul g) n n x
      ∙ ap (frobenius (product 1 n bit_mul g) n) (frobenius_fixed x h)
      ∙ frobenius_fixed x h

  -- the value of the modulus
  abbrev modulus_value : ℕ → ℕ
  modulus_value y = value_at big (suc n) (coefficient 1 g) y

  -- the modulus has a root
  pub base_root_found : FoundAt modulus_value (2 ^ k) 0
  base_root_found = subst (λ f. FoundAt (λ y. value_at big (suc n) f y) (2 ^ k) 0) (bits_same g) (at n base double power_of_big)
    where
      at : (m : ℕ) → IsBaseField m g → k ≡ m * 2 → ((x : ℕ) → x < 2 ^ m → power (product 1 m bit_mul g) x (2 ^ k) ≡ x) → FoundAt (λ y. value_at big (suc m) (λ i. coefficient 1 g i % 2) y) (2 ^ k) 0
      at zero b d same = absurd (let some : 1 ≤ 0 = b.modulus.some in omega arith)
      at (suc zero) b d same = line_root 1 bit_mul g (IsMonic-from_modulus 1 g b.modulus) k big ring (λ b. b % 2) (IsCarried-bit k big ring)
      at (suc (suc e)) b d same =
          root_found 1 bit_mul IsRing-bit_mul e g (IsMonic-from_modulus (suc (suc e)) g b.modulus) k big ring (λ b. b % 2) (IsCarried-bit k big ring) field
          (le_trans (room e k d) (below_power k)) (same 2 (pow_below 1 (suc (suc e)) (omega arith)))
        where
          room : (e k : ℕ) → k ≡ suc (suc e) * 2 → suc (suc e) ≤ k
          room e k d = omega arith

          below_power : (k : ℕ) → k ≤ 2 ^ k
          below_power k = omega (arith, self_below k)

  square : (b : ℕ) → b < 2 → power big b 2 ≡ b
  unfolding power
  square b h = elim (bit_cases b h) [
    | inl z ↦ rw z (zero_mul k big ring (big 0 1))
    | inr o ↦ rw o (ring.one (big 1 1) (ring.closed 1 1) ∙ ring.one 1 (one_below k big ring))
  ]

  -- a root is its own power by 2 to the n
  pub base_root_fixed : (s : ℕ) → s < 2 ^ k → modulus_value s ≡ 0 → frobenius big n s ≡ s
  base_root_fixed s hs root =
      frobenius-power k big ring n s hs ∙ at n base power_of_frobenius (ap (λ f. value_at big (suc n) f s) (bits_same g) ∙ root)
    where
      at : (m : ℕ) → IsBaseField m g → ((x : ℕ) → x < 2 ^ m → power (product 1 m bit_mul g) x (2 ^ m) ≡ x) → value_at big (suc m) (λ i. coefficient 1 g i % 2) s ≡ 0 → power big s (2 ^ m) ≡ s
      at zero b same z = absurd (let some : 1 ≤ 0 = b.modulus.some in omega arith)
      at (suc zero) b same z =
          let is : s ≡ coefficient 1 g 0 % 2 = line_root_is 1 bit_mul g (IsMonic-from_modulus 1 g b.modulus) k big ring (λ b. b % 2) (IsCarried-bit k big ring) s hs z in
          ap (λ x. power big x 2) is ∙ square (coefficient 1 g 0 % 2) (omega arith) ∙ sym is
      at (suc (suc e)) b same z =
          root_same 1 bit_mul IsRing-bit_mul e g (IsMonic-from_modulus (suc (suc e)) g b.modulus) k big ring (λ b. b % 2) (IsCarried-bit k big ring) s (2 ^ suc (suc e)) hs z (same 2 (pow_below 1 (suc (suc e)) (omega arith)))
