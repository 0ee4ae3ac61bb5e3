-- The isomorphism that takes x and Y to the two least roots is the only one.
use Rattle.std.proofs.Common.{◌≡◌, ℕ, zero, suc, refl, sym, ◌∙◌, ap, ap₂, ◌<◌, ◌≤◌, ◌^◌, ◌+◌, ◌-◌, ◌*◌, ◌%◌, inl, inr, arith, pow_pos, subst, mul-suc, pow-add, pow-suc, lt_of_lt_of_le, pow_mono, le_antisymm, List, [], ◌∷◌, length, get_or}
use Rattle.std.specs.Prelude.{bit_xor}
use Rattle.std.specs.Int.Bits.{xor_self, xor_zero_r}
use Rattle.std.proofs.Math.Arith.{digits_lt}
use Rattle.std.proofs.lemmas.Bool.{cases_lt}
use Rattle.std.proofs.lemmas.Nat.{pow_below, shr_high, mod_low}
use native.Mathlib.Nat.{mod-eq_of_lt}
use Rattle.std.proofs.Math.Nat.{add-zero}
use Rattle.lists.specs.laws.NumberLaws.{below_times, parted}
use mathlib.Core.Path.{fun_ext}
use Rattle.gf_field.specs.Ring.{IsRing}
use Rattle.gf_field.specs.Bit.{bit_mul}
use Rattle.gf_field.specs.laws.BitLaws.{IsRing-bit_mul}
use Rattle.gf_field.specs.laws.ModulusLaws.{IsMonic-from_modulus}
use Rattle.gf_field.specs.Polynomial.{coefficient, IsMonic, IsProductModulo}
use Rattle.gf_field.specs.Quotient.{none, plus, times, shift, rest, step, reduced, packed, product}
use Rattle.gf_field.specs.laws.DivisionLaws.{joined}
use Rattle.gf_field.specs.laws.RingLaws.{zero_mul, mul_zero}
use Rattle.gf_field.specs.laws.PackingLaws.{coefficient_below, coefficient_zero, coefficient_suc, coefficient_ends, packed-coefficient}
use Rattle.gf_field.specs.laws.ProductLaws.{IsProductModulo-product}
use Rattle.gf_field.specs.laws.QuotientRingLaws.{product_below, coefficient-product}
use Rattle.gf_tower.specs.FieldName.{tower_product}
use Rattle.gf_tower.specs.Tower.{tower_polynomial}
use Rattle.irreducible.specs.Span.{combination}
use Rattle.irreducible.specs.laws.AdditiveLaws.{IsAdditive, combination-additive}
use Rattle.gf_iso.specs.Root.{IsLeastRoot}
use Rattle.gf_iso.specs.Isomorphism.{IsHomomorphism, IsIsoOf, AreSame}
use Rattle.gf_iso.specs.private.Fields.{IsTowerField}
use Rattle.gf_iso.proofs.RootLaws.{coefficient_x, reduced_x, reduced_nothing, step_low}
use Rattle.gf_iso.proofs.TowerImageLaws.{base_ring, tower_monic}
use Rattle.gf_iso.proofs.WordLaws.{IsAdditive-clipped}

-- ---- additive maps that agree at the powers of 2
values_of : ℕ → (ℕ → ℕ) → List ℕ
values_of zero f = []
values_of (suc m) f = f 0 ∷ values_of m (rest f)

values_size : (m : ℕ) (f : ℕ → ℕ) → length (values_of m f) ≡ m
unfolding values_of
values_size zero f = refl
values_size (suc m) f = ap suc (values_size m (rest f))

values_at : (m : ℕ) (f : ℕ → ℕ) (i : ℕ) → i < m → get_or (values_of m f) i 0 ≡ f i
unfolding values_of
values_at zero f i h = absurd (omega arith)
values_at (suc m) f zero h = refl
values_at (suc m) f (suc i) h = values_at m (rest f) i (omega arith)

-- the value of an additive map by its values at the powers of 2
by_values : (k : ℕ) (f v : ℕ → ℕ) → IsAdditive f → ((i : ℕ) → i < k → v i ≡ f (2 ^ i)) → (a : ℕ) → a < 2 ^ k → combination (values_of k v) a ≡ f a
by_values k f v additive at a h =
    combination-additive (values_of k v) f additive (λ i l. let low : i < k = omega (arith, values_size k v) in values_at k v i low ∙ at i low) a
    ∙ ap (λ m. f (a % 2 ^ m)) (values_size k v) ∙ ap f (mod-eq_of_lt h)

agree : (k : ℕ) (f h : ℕ → ℕ) → IsAdditive f → IsAdditive h → ((i : ℕ) → i < k → f (2 ^ i) ≡ h (2 ^ i)) → (a : ℕ) → a < 2 ^ k → f a ≡ h a
agree k f h additive other at a l =
    sym (by_values k f (λ i. f (2 ^ i)) additive (λ i m. refl) a l) ∙ by_values k h (λ i. f (2 ^ i)) other at a l

-- ---- products by x and by elements of the base

coefficient_shifted : (n u : ℕ) → coefficient n (u * 2 ^ n + 0) ≡ shift (coefficient n u)
coefficient_shifted n u = fun_ext at
  where
    at : (i : ℕ) → coefficient n (u * 2 ^ n + 0) i ≡ shift (coefficient n u) i
    at zero = coefficient_zero n (u * 2 ^ n + 0) ∙ mod_low u n 0 (pow_pos n)
    at (suc i) = coefficient_suc n (u * 2 ^ n + 0) i ∙ ap (λ x. coefficient n x i) (shr_high u n 0 (pow_pos n))

same_number : (n d u v : ℕ) → u < 2 ^ (n * d) → v < 2 ^ (n * d) → coefficient n u ≡ coefficient n v → u ≡ v
same_number n d u v hu hv e = sym (packed-coefficient n d u hu) ∙ ap (packed n d) e ∙ packed-coefficient n d v hv

module _ (n : ℕ) (mul : ℕ → ℕ → ℕ) (below : IsRing n mul) (d g : ℕ) (monic : IsMonic n (suc (suc d)) g) where
  longer : (u : ℕ) → u < 2 ^ (n * suc d) → u < 2 ^ (n * suc (suc d))
  longer u h = lt_of_lt_of_le h (pow_mono (more n d))
    where
      more : (n d : ℕ) → n * suc d ≤ n * suc (suc d)
      more n d = omega (arith, mul-suc n (suc d))

  short : 2 ^ n < 2 ^ (n * suc (suc d))
  short = pow_below n (n * suc (suc d)) (below_times n d below.some)

  shifted_below : (u : ℕ) → u < 2 ^ (n * suc d) → u * 2 ^ n + 0 < 2 ^ (n * suc (suc d))
  shifted_below u h = rw (mul-suc n (suc d), pow-add 2 (n * suc d) n) (digits_lt h (pow_pos n))

  -- the class of x times u
  pub times_x : (u : ℕ) → u < 2 ^ (n * suc d) → product n (suc (suc d)) mul g (2 ^ n) u ≡ u * 2 ^ n + 0
  times_x u h = same_number n (suc (suc d)) (product n (suc (suc d)) mul g (2 ^ n) u) (u * 2 ^ n + 0) (product_below n (suc d) mul g below monic (2 ^ n) u) (shifted_below u h)
      (coefficient-product n (suc d) mul g below monic (2 ^ n) u short (longer u h)
      ∙ ap (λ f. reduced mul (suc d) (coefficient n g) (suc (suc d)) f (coefficient n u)) (coefficient_x n below.some)
      ∙ reduced_x n mul below (suc d) (coefficient n g) d (coefficient n u) (coefficient_below n u)
      ∙ step_low n mul below (suc d) (coefficient n g) (coefficient n u) (coefficient_ends n (suc d) u h (suc d) (omega arith))
      ∙ sym (coefficient_shifted n u))

  reduced_constant : (h : ℕ → ℕ) (m u : ℕ) (f : ℕ → ℕ) → reduced mul (suc d) h (suc m) (joined u none) f ≡ times mul u f
  reduced_constant h m u f = ap (λ p. plus (times mul u f) (step mul (suc d) h p)) (reduced_nothing n mul below (suc d) h m f) ∙ fun_ext at
    where
      same : (i : ℕ) → bit_xor (mul u (f i)) (bit_xor 0 (mul 0 (h i))) ≡ mul u (f i)
      same i = ap (bit_xor (mul u (f i))) (ap (bit_xor 0) (zero_mul n mul below (h i)) ∙ xor_self 0) ∙ xor_zero_r (mul u (f i))

      at : (i : ℕ) → plus (times mul u f) (step mul (suc d) h none) i ≡ times mul u f i
      at zero = same 0
      at (suc i) = same (suc i)

  constant : (u : ℕ) → u < 2 ^ n → coefficient n u ≡ joined u none
  constant u h = fun_ext at
    where
      one_digit : u < 2 ^ (n * 1)
      one_digit = subst (λ m. u < 2 ^ m) (times_one n) h
        where
          times_one : (n : ℕ) → n ≡ n * 1
          times_one n = omega arith

      at : (i : ℕ) → coefficient n u i ≡ joined u none i
      at zero = coefficient_zero n u ∙ mod-eq_of_lt h
      at (suc i) = coefficient_ends n 1 u one_digit (suc i) (omega arith)

  first_below : (u : ℕ) → u < 2 ^ n → u < 2 ^ (n * suc (suc d))
  first_below u h = lt_of_lt_of_le h (pow_mono (more n d))
    where
      more : (n d : ℕ) → n ≤ n * suc (suc d)
      more n d = omega (arith, mul-suc n (suc d))

  -- a product in the base is one in the quotient
  pub times_base : (u v : ℕ) → u < 2 ^ n → v < 2 ^ n → product n (suc (suc d)) mul g u v ≡ mul u v
  times_base u v hu hv = same_number n (suc (suc d)) (product n (suc (suc d)) mul g u v) (mul u v) (product_below n (suc d) mul g below monic u v) (first_below (mul u v) (below.closed u v))
      (coefficient-product n (suc d) mul g below monic u v (first_below u hu) (first_below v hv)
      ∙ ap₂ (λ f h. reduced mul (suc d) (coefficient n g) (suc (suc d)) f h) (constant u hu) (constant v hv)
      ∙ reduced_constant (coefficient n g) (suc d) u (joined v none)
      ∙ fun_ext at ∙ sym (constant (mul u v) (below.closed u v)))
    where
      at : (i : ℕ) → times mul u (joined v none) i ≡ joined (mul u v) none i
      at zero = refl
      at (suc i) = mul_zero n mul below u

-- ---- two isomorphisms
least_same : (k : ℕ) (mul : ℕ → ℕ → ℕ) (m : ℕ) (f : ℕ → ℕ) (y z : ℕ) → IsLeastRoot k mul m f y → IsLeastRoot k mul m f z → y ≡ z
least_same k mul m f y z p q = le_antisymm (p.least z q.element q.root) (q.least y p.element p.root)

module _ (n g c0 c1 : ℕ) (tower : IsTowerField n g c0 c1) (big : ℕ → ℕ → ℕ)
    (there back other_there other_back : ℕ → ℕ) (first : IsIsoOf n g (c0 ∷ c1 ∷ []) big there back) (second : IsIsoOf n g (c0 ∷ c1 ∷ []) big other_there other_back) where
  p : IsHomomorphism (n * 2) (tower_product n g (c0 ∷ c1 ∷ [])) big there
  p = first.isomorphism.there_keeps

  q : IsHomomorphism (n * 2) (tower_product n g (c0 ∷ c1 ∷ [])) big other_there
  q = second.isomorphism.there_keeps

  wide : (u : ℕ) → u < 2 ^ n → u < 2 ^ (n * 2)
  wide u h = lt_of_lt_of_le h (pow_mono (omega arith))

  -- a product of elements at which they agree
  agree_product : (a b r : ℕ) → a < 2 ^ (n * 2) → b < 2 ^ (n * 2) → tower_product n g (c0 ∷ c1 ∷ []) a b ≡ r → there a ≡ other_there a → there b ≡ other_there b → there r ≡ other_there r
  agree_product a b r ha hb is ea eb = ap there (sym is) ∙ p.product a b ha hb ∙ ap₂ big ea eb ∙ sym (q.product a b ha hb) ∙ ap other_there is

  agree_base_power : (m : ℕ) → m ≡ n → (i : ℕ) → i < m → there (2 ^ i) ≡ other_there (2 ^ i)
  agree_base_power m e zero h = p.one ∙ sym q.one
  agree_base_power zero e (suc i) h = absurd (omega arith)
  agree_base_power (suc zero) e (suc i) h = absurd (omega arith)
  agree_base_power (suc (suc d)) e (suc i) h =
      agree_product 2 (2 ^ i) (2 ^ suc i) (wide 2 two) (wide (2 ^ i) (pow_below i n (omega arith))) (times_base n (product 1 n bit_mul g) (base_ring n g c0 c1 tower) 0 (tower_polynomial n (c0 ∷ c1 ∷ [])) (tower_monic n g c0 c1 tower) 2 (2 ^ i) two (pow_below i n (omega arith)) ∙ next d e (omega arith))
      (at_x d e) (agree_base_power (suc (suc d)) e i (omega arith))
    where
      two : 2 < 2 ^ n
      two = pow_below 1 n (omega arith)

      monic : (d : ℕ) → suc (suc d) ≡ n → IsMonic 1 (suc (suc d)) g
      monic d e = subst (λ m. IsMonic 1 m g) (sym e) (IsMonic-from_modulus n g tower.base.modulus)

      next : (d : ℕ) → suc (suc d) ≡ n → i < suc d → product 1 n bit_mul g 2 (2 ^ i) ≡ 2 ^ suc i
      next d e l = ap (λ m. product 1 m bit_mul g 2 (2 ^ i)) (sym e) ∙ times_x 1 bit_mul IsRing-bit_mul d g (monic d e) (2 ^ i) (pow_below i (1 * suc d) (omega arith)) ∙ add-zero (2 ^ i * 2) ∙ doubled i
        where
          doubled : (i : ℕ) → 2 ^ i * 2 ≡ 2 ^ suc i
          doubled i = omega (arith, pow-suc 2 i)

      is_x : (d : ℕ) → suc (suc d) ≡ n → IsProductModulo 1 n bit_mul g 2 1 2
      is_x d e = subst (λ m. IsProductModulo 1 m bit_mul g 2 1 2) e
          (subst (IsProductModulo 1 (suc (suc d)) bit_mul g 2 1)
          (times_x 1 bit_mul IsRing-bit_mul d g (monic d e) 1 (pow_below 0 (1 * suc d) (omega arith)))
          (IsProductModulo-product 1 bit_mul IsRing-bit_mul (suc d) g (monic d e) 2 1 (pow_below 1 (1 * suc (suc d)) (omega arith)) (pow_below 0 (1 * suc (suc d)) (omega arith))))

      at_x : (d : ℕ) → suc (suc d) ≡ n → there 2 ≡ other_there 2
      at_x d e = least_same (n * 2) big (suc n) (coefficient 1 g) (there 2) (other_there 2) (first.base_root 2 (is_x d e)) (second.base_root 2 (is_x d e))

  clipped : (f : ℕ → ℕ) (a : ℕ) → a < 2 ^ (n * 2) → f (a % 2 ^ (n * 2)) ≡ f a
  clipped f a h = ap f (mod-eq_of_lt h)

  agree_base : (u : ℕ) → u < 2 ^ n → there u ≡ other_there u
  agree_base u h =
      sym (clipped there u (wide u h))
      ∙ agree n (λ a. there (a % 2 ^ (n * 2))) (λ a. other_there (a % 2 ^ (n * 2))) (IsAdditive-clipped (n * 2) _ _ there p) (IsAdditive-clipped (n * 2) _ _ other_there q)
      (λ i l. clipped there (2 ^ i) (wide (2 ^ i) (pow_below i n l)) ∙ agree_base_power n refl i l ∙ sym (clipped other_there (2 ^ i) (wide (2 ^ i) (pow_below i n l)))) u h
      ∙ clipped other_there u (wide u h)

  agree_Y : there (2 ^ n) ≡ other_there (2 ^ n)
  agree_Y = least_same (n * 2) big 3 (λ i. there (coefficient n (tower_polynomial n (c0 ∷ c1 ∷ [])) i)) (there (2 ^ n)) (other_there (2 ^ n)) first.tower_root
      (subst (λ f. IsLeastRoot (n * 2) big 3 f (other_there (2 ^ n))) (sym digits) second.tower_root)
    where
      digits : ◌≡◌ {A = ℕ → ℕ} (λ i. there (coefficient n (tower_polynomial n (c0 ∷ c1 ∷ [])) i)) (λ i. other_there (coefficient n (tower_polynomial n (c0 ∷ c1 ∷ [])) i))
      digits = fun_ext (λ i. agree_base (coefficient n (tower_polynomial n (c0 ∷ c1 ∷ [])) i) (coefficient_below n (tower_polynomial n (c0 ∷ c1 ∷ [])) i))

  agree_power : (i : ℕ) → i < n * 2 → there (2 ^ i) ≡ other_there (2 ^ i)
  agree_power i l = elim (cases_lt i n) [
    | inl h ↦ agree_base (2 ^ i) (pow_below i n h)
    | inr h ↦ ap there (parts i n h) ∙ high (i - n) (omega arith) ∙ ap other_there (sym (parts i n h))
  ]
    where
      parts : (i n : ℕ) → n ≤ i → 2 ^ i ≡ 2 ^ (i - n) * 2 ^ n + 0
      parts i n h = ap (λ m. 2 ^ m) (parted i n h) ∙ pow-add 2 (i - n) n ∙ sym (add-zero (2 ^ (i - n) * 2 ^ n))

      high : (j : ℕ) → j < n → there (2 ^ j * 2 ^ n + 0) ≡ other_there (2 ^ j * 2 ^ n + 0)
      high j h = agree_product (2 ^ n) (2 ^ j) (2 ^ j * 2 ^ n + 0) (pow_below n (n * 2) (omega arith)) (wide (2 ^ j) (pow_below j n h))
          (times_x n (product 1 n bit_mul g) (base_ring n g c0 c1 tower) 0 (tower_polynomial n (c0 ∷ c1 ∷ [])) (tower_monic n g c0 c1 tower) (2 ^ j) (subst (λ m. 2 ^ j < 2 ^ m) (times_one n) (pow_below j n h)))
          agree_Y (agree_base (2 ^ j) (pow_below j n h))
        where
          times_one : (n : ℕ) → n ≡ n * 1
          times_one n = omega arith

  agree_there : (a : ℕ) → a < 2 ^ (n * 2) → there a ≡ other_there a
  agree_there a h =
      sym (clipped there a h)
      ∙ agree (n * 2) (λ a. there (a % 2 ^ (n * 2))) (λ a. other_there (a % 2 ^ (n * 2))) (IsAdditive-clipped (n * 2) _ _ there p) (IsAdditive-clipped (n * 2) _ _ other_there q)
      (λ i l. clipped there (2 ^ i) (pow_below i (n * 2) l) ∙ agree_power i l ∙ sym (clipped other_there (2 ^ i) (pow_below i (n * 2) l))) a h
      ∙ clipped other_there a h

  pub only_iso : AreSame (n * 2) there back other_there other_back
  only_iso = record {
    same_there = agree_there;
    same_back = λ a h. sym (back_of a h (first.isomorphism.back_keeps.element a h));
  }
    where
      back_of : (a : ℕ) → a < 2 ^ (n * 2) → back a < 2 ^ (n * 2) → other_back a ≡ back a
      back_of a h b = ap other_back (sym (sym (agree_there (back a) b) ∙ first.isomorphism.redone a h)) ∙ second.isomorphism.undone (back a) b
