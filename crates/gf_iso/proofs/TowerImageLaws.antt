-- The maps from the base and from the tower that take x and Y to roots.
use Rattle.std.proofs.Common.{◌≡◌, ℕ, zero, suc, refl, sym, ◌∙◌, ap, ap₂, ◌<◌, ◌≤◌, ◌^◌, ◌+◌, ◌*◌, ◌%◌, inl, inr, arith, pow_pos, subst, one-mul, pow-add, lt_of_lt_of_le, pow_mono, [], ◌∷◌}
use Rattle.std.specs.Prelude.{bit_xor}
use Rattle.std.specs.Int.Bits.{xor_self, xor_zero_l, xor_zero_r, xor_comm, xor_assoc}
use Rattle.std.proofs.Math.Arith.{digits_lt}
use Rattle.std.proofs.lemmas.Bool.{cases_eq}
use Rattle.std.proofs.lemmas.Nat.{pow_below, shr_high, mod_low}
use native.Mathlib.Nat.{mod-eq_of_lt}
use Rattle.lists.specs.laws.NumberLaws.{below_twice, twice_is_sum, once_plus_zero}
use mathlib.Core.Path.{fun_ext}
use Rattle.gf_field.specs.Ring.{IsRing}
use Rattle.gf_field.specs.Bit.{bit_mul}
use Rattle.gf_field.specs.laws.BitLaws.{IsRing-bit_mul}
use Rattle.gf_field.specs.Field.{HasNoZeroDivisors}
use Rattle.gf_field.specs.laws.FieldLaws.{HasInverse, inverse_of, IsFieldBySquares-from}
use Rattle.gf_field.specs.laws.ModulusLaws.{IsMonic-from_modulus, IsRing-from_modulus}
use Rattle.gf_field.specs.Power.{power}
use Rattle.gf_field.specs.laws.PowerLaws.{one_below}
use Rattle.gf_field.specs.Polynomial.{coefficient, IsMonic, IsProductModulo}
use Rattle.gf_field.specs.Quotient.{unit, reduced, packed, product}
use Rattle.gf_field.specs.laws.QuotientLaws.{EndsAt, AllBelow, reduced_below, reduced_ends}
use Rattle.gf_field.specs.laws.RingLaws.{mul_zero, zero_mul, mul_one}
use Rattle.gf_field.specs.laws.PackingLaws.{coefficient_below, coefficient_zero, coefficient_suc, coefficient_one, coefficient-packed, coefficient_ends}
use Rattle.gf_field.specs.laws.ProductLaws.{IsProductModulo-reduced, IsProduct_same}
use Rattle.gf_field.specs.laws.PigeonholeLaws.{FoundAt}
use Rattle.gf_field.specs.laws.FermatLaws.{power_same}
use Rattle.gf_tower.specs.FieldName.{tower_product}
use Rattle.gf_tower.specs.Tower.{polynomial_of, tower_polynomial}
use Rattle.gf_tower.specs.Digits.{IsPackedList}
use Rattle.gf_tower.specs.laws.TowerLaws.{IsMonic-tower, IsRing-tower}
use Rattle.gf_field.specs.Element.{AreElements}
use Rattle.gf_iso.specs.Root.{value_at}
use Rattle.gf_iso.specs.private.Fields.{IsBaseField, IsTowerField, base_image, quadratic}
use Rattle.gf_iso.proofs.CarriedLaws.{IsCarried, carried_zero, val_shift, val_open, val_unit, val_reduced, IsCarried-image}
use Rattle.gf_iso.proofs.RootLaws.{coefficient_x, root_found}
use Rattle.gf_iso.proofs.SubfieldLaws.{IsCarried-bit, bits_same}

-- the map from the base, of all numbers
abbrev pub base_map : (ℕ → ℕ → ℕ) → (n s u : ℕ) → ℕ
base_map big n s u = value_at big n (λ i. coefficient 1 (u % 2 ^ (1 * n)) i % 2) s

-- the map from the tower, of all numbers
abbrev pub tower_map : (ℕ → ℕ → ℕ) → (n s t a : ℕ) → ℕ
tower_map big n s t a = value_at big 2 (λ i. base_map big n s (coefficient n (a % 2 ^ (n * 2)) i)) t

pub base_same : (big : ℕ → ℕ → ℕ) (n s u : ℕ) → u < 2 ^ n → base_map big n s u ≡ base_image big n s u
unfolding base_image
base_same big n s u h =
    ap (λ f. value_at big n f s) (bits_same (u % 2 ^ (1 * n)))
    ∙ ap (λ x. value_at big n (coefficient 1 x) s) (mod-eq_of_lt (rw one-mul h))

pub digits_same : (big : ℕ → ℕ → ℕ) (n s a : ℕ) → ◌≡◌ {A = ℕ → ℕ} (λ i. base_map big n s (coefficient n a i)) (λ i. base_image big n s (coefficient n a i))
digits_same big n s a = fun_ext (λ i. base_same big n s (coefficient n a i) (coefficient_below n a i))

-- ---- the base
module _ (k : ℕ) (big : ℕ → ℕ → ℕ) (ring : IsRing k big) (s : ℕ) (hs : s < 2 ^ k) where
  pub base_carried : (n g : ℕ) → IsBaseField n g → value_at big (suc n) (coefficient 1 g) s ≡ 0 → IsCarried (product 1 n bit_mul g) k big (base_map big n s)
  base_carried zero g base root = absurd (let some : 1 ≤ 0 = base.modulus.some in omega arith)
  base_carried (suc e) g base root =
      IsCarried-image bit_mul k big ring (λ b. b % 2) (IsCarried-bit k big ring) s 1 e g IsRing-bit_mul (IsMonic-from_modulus (suc e) g base.modulus)
      (ap (λ f. value_at big (suc (suc e)) f s) (bits_same g) ∙ root)

  -- x goes to the root
  pub base_map_x : (n g x : ℕ) → IsBaseField n g → value_at big (suc n) (coefficient 1 g) s ≡ 0 → IsProductModulo 1 n bit_mul g 2 1 x → base_map big n s x ≡ s
  base_map_x zero g x base root p = absurd (let some : 1 ≤ 0 = base.modulus.some in omega arith)
  base_map_x (suc e) g x base root p =
      ap (λ f. value_at big (suc e) (λ i. f i % 2) s)
      (ap (coefficient 1) (mod-eq_of_lt p.short ∙ IsProduct_same 1 bit_mul IsRing-bit_mul e g monic 2 1 x (packed 1 (suc e) class) p (IsProductModulo-reduced 1 bit_mul IsRing-bit_mul e g monic 2 2 1 two_ends one_below_top))
      ∙ fun_ext (coefficient-packed 1 (suc e) class class_below class_ends))
      ∙ val_reduced bit_mul k big ring (λ b. b % 2) (IsCarried-bit k big ring) s e (coefficient 1 g) monic.leading (ap (λ f. value_at big (suc (suc e)) f s) (bits_same g) ∙ root) 2 (coefficient 1 2) (coefficient 1 1)
      ∙ ap₂ big
      (ap (λ f. value_at big 2 (λ i. f i % 2) s) (coefficient_x 1 (omega arith)) ∙ val_shift bit_mul k big ring (λ b. b % 2) (IsCarried-bit k big ring) s 1 unit ∙ ap (big s) (val_unit bit_mul k big ring (λ b. b % 2) (IsCarried-bit k big ring) s 0) ∙ mul_one k big ring s hs)
      (ap (λ f. value_at big (suc e) (λ i. f i % 2) s) (coefficient_one 1 (omega arith)) ∙ val_unit bit_mul k big ring (λ b. b % 2) (IsCarried-bit k big ring) s e)
      ∙ mul_one k big ring s hs
    where
      monic : IsMonic 1 (suc e) g
      monic = IsMonic-from_modulus (suc e) g base.modulus

      one_below_top : 1 < 2 ^ (1 * suc e)
      one_below_top = rw one-mul (pow_below 0 (suc e) (omega arith))

      two_ends : EndsAt 2 (coefficient 1 2)
      two_ends = coefficient_ends 1 2 2 (omega arith)

      class : ℕ → ℕ
      class = reduced bit_mul e (coefficient 1 g) 2 (coefficient 1 2) (coefficient 1 1)

      class_below : AllBelow 1 class
      class_below = reduced_below 1 bit_mul IsRing-bit_mul e (coefficient 1 g) 2 (coefficient 1 2) (coefficient 1 1) (coefficient_below 1 1)

      class_ends : EndsAt (suc e) class
      class_ends = reduced_ends 1 bit_mul IsRing-bit_mul e (coefficient 1 g) monic.leading monic.last 2 (coefficient 1 2) (coefficient 1 1) (coefficient_below 1 1) (coefficient_ends 1 (suc e) 1 one_below_top)

-- ---- the tower's polynomial
module _ (n c0 c1 : ℕ) (h0 : c0 < 2 ^ n) (h1 : c1 < 2 ^ n) where
  pub tower_coefficient_0 : coefficient n (tower_polynomial n (c0 ∷ c1 ∷ [])) 0 ≡ c0
  tower_coefficient_0 = coefficient_zero n (tower_polynomial n (c0 ∷ c1 ∷ [])) ∙ mod_low ((0 * 2 ^ n + 1) * 2 ^ n + c1) n c0 h0

  pub tower_coefficient_1 : coefficient n (tower_polynomial n (c0 ∷ c1 ∷ [])) 1 ≡ c1
  tower_coefficient_1 =
      coefficient_suc n (tower_polynomial n (c0 ∷ c1 ∷ [])) 0 ∙ ap (λ u. coefficient n u 0) (shr_high ((0 * 2 ^ n + 1) * 2 ^ n + c1) n c0 h0)
      ∙ coefficient_zero n ((0 * 2 ^ n + 1) * 2 ^ n + c1) ∙ mod_low (0 * 2 ^ n + 1) n c1 h1

module _ (n g c0 c1 : ℕ) (tower : IsTowerField n g c0 c1) where
  pub base_ring : IsRing n (product 1 n bit_mul g)
  base_ring = IsRing-from_modulus n g tower.base.modulus

  packed_list : IsPackedList n 2 (polynomial_of n (c0 ∷ c1 ∷ [])) (c0 ∷ c1 ∷ [])
  packed_list = record {
    two = omega arith;
    small = let small : n ≤ 16 = tower.base.small in omega arith;
    size = refl;
    elements = elements;
    packs = refl;
  }
    where
      elements : AreElements n (c0 ∷ c1 ∷ [])
      elements zero h = tower.first
      elements (suc zero) h = tower.second
      elements (suc (suc i)) h = absurd (omega arith)

  pub tower_monic : IsMonic n 2 (tower_polynomial n (c0 ∷ c1 ∷ []))
  tower_monic = IsMonic-tower n 2 (polynomial_of n (c0 ∷ c1 ∷ [])) (c0 ∷ c1 ∷ []) packed_list (product 1 n bit_mul g) base_ring

  pub tower_ring : IsRing (n * 2) (tower_product n g (c0 ∷ c1 ∷ []))
  tower_ring = IsRing-tower n 2 (polynomial_of n (c0 ∷ c1 ∷ [])) (c0 ∷ c1 ∷ []) packed_list (product 1 n bit_mul g) base_ring

  module _ (k : ℕ) (big : ℕ → ℕ → ℕ) (ring : IsRing k big) (double : k ≡ n * 2) (s : ℕ) (hs : s < 2 ^ k) (root : value_at big (suc n) (coefficient 1 g) s ≡ 0) where
    pub carried : IsCarried (product 1 n bit_mul g) k big (base_map big n s)
    carried = base_carried k big ring s hs n g tower.base root

    -- the tower's polynomial has a root
    pub tower_root_found : HasNoZeroDivisors k big → FoundAt (λ y. value_at big 3 (λ i. base_image big n s (coefficient n (tower_polynomial n (c0 ∷ c1 ∷ [])) i)) y) (2 ^ k) 0
    tower_root_found field =
        subst (λ f. FoundAt (λ y. value_at big 3 f y) (2 ^ k) 0) (digits_same big n s (tower_polynomial n (c0 ∷ c1 ∷ [])))
        (root_found n (product 1 n bit_mul g) base_ring 0 (tower_polynomial n (c0 ∷ c1 ∷ [])) tower_monic k big ring (base_map big n s) carried field
        (one_below k big ring)
        (ap (λ m. power (tower_product n g (c0 ∷ c1 ∷ [])) (2 ^ n) (2 ^ m)) double ∙ power_same (n * 2) (tower_product n g (c0 ∷ c1 ∷ [])) tower_ring tower.field (2 ^ n) (pow_below n (n * 2) (below_twice n base_ring.some))))

    -- a root is where the square plus a multiple is the last coefficient
    pub root_quadratic : (y : ℕ) → y < 2 ^ k → value_at big 3 (λ i. base_image big n s (coefficient n (tower_polynomial n (c0 ∷ c1 ∷ [])) i)) y ≡ bit_xor (base_image big n s c0) (quadratic big (base_image big n s c1) y)
    unfolding value_at power
    root_quadratic y hy =
        ap (λ f. value_at big 3 f y) (sym (digits_same big n s (tower_polynomial n (c0 ∷ c1 ∷ []))))
        ∙ ap₂ bit_xor
        (ap₂ bit_xor
        (xor_zero_l (big (base_map big n s (coefficient n (tower_polynomial n (c0 ∷ c1 ∷ [])) 0)) 1)
        ∙ mul_one k big ring (base_map big n s (coefficient n (tower_polynomial n (c0 ∷ c1 ∷ [])) 0)) (carried.below (coefficient n (tower_polynomial n (c0 ∷ c1 ∷ [])) 0))
        ∙ ap (base_map big n s) (tower_coefficient_0 n c0 c1 tower.first tower.second) ∙ base_same big n s c0 tower.first)
        (ap₂ big (ap (base_map big n s) (tower_coefficient_1 n c0 c1 tower.first tower.second) ∙ base_same big n s c1 tower.second) (mul_one k big ring y hy)))
        (ap₂ big (ap (base_map big n s) tower_monic.leading ∙ carried.one) (ap (big y) (mul_one k big ring y hy)) ∙ ring.one (big y y) (ring.closed y y))
        ∙ xor_assoc (base_image big n s c0) (big (base_image big n s c1) y) (big y y)
        ∙ ap (bit_xor (base_image big n s c0)) (xor_comm (big (base_image big n s c1) y) (big y y))

    module _ (t : ℕ) (ht : t < 2 ^ k) (tower_root : value_at big 3 (λ i. base_image big n s (coefficient n (tower_polynomial n (c0 ∷ c1 ∷ [])) i)) t ≡ 0) where
      pub tower_carried : IsCarried (tower_product n g (c0 ∷ c1 ∷ [])) k big (tower_map big n s t)
      tower_carried =
          IsCarried-image (product 1 n bit_mul g) k big ring (base_map big n s) carried t n 1 (tower_polynomial n (c0 ∷ c1 ∷ [])) base_ring tower_monic
          (ap (λ f. value_at big 3 f t) (digits_same big n s (tower_polynomial n (c0 ∷ c1 ∷ []))) ∙ tower_root)

      -- an element of the base goes where the base takes it
      pub tower_map_base : (u : ℕ) → u < 2 ^ n → tower_map big n s t u ≡ base_map big n s u
      unfolding value_at
      tower_map_base u h =
          ap (λ f. value_at big 2 (λ i. base_map big n s (f i)) t) (ap (coefficient n) (mod-eq_of_lt (wide n h)))
          ∙ val_open (product 1 n bit_mul g) k big ring (base_map big n s) carried t 1 (coefficient n u)
          ∙ ap₂ bit_xor (ap (base_map big n s) (coefficient_zero n u ∙ mod-eq_of_lt h))
          (ap (big t) (val_open (product 1 n bit_mul g) k big ring (base_map big n s) carried t 0 (λ i. coefficient n u (suc i)) ∙ ap₂ bit_xor (ap (base_map big n s) (coefficient_ends n 1 u (rw times_one h) 1 (omega arith)) ∙ zero_image) (mul_zero k big ring t) ∙ xor_self 0) ∙ mul_zero k big ring t)
          ∙ xor_zero_r (base_map big n s u)
        where
          times_one : {n : ℕ} → n * 1 ≡ n
          times_one = omega arith

          wide : (n : ℕ) → u < 2 ^ n → u < 2 ^ (n * 2)
          wide n l = lt_of_lt_of_le l (pow_mono (omega arith))

          zero_image : base_map big n s 0 ≡ 0
          zero_image = carried_zero (product 1 n bit_mul g) k big ring (base_map big n s) carried t

      -- Y times an element of the base
      pub tower_map_high : (u : ℕ) → u < 2 ^ n → tower_map big n s t (u * 2 ^ n + 0) ≡ big t (base_map big n s u)
      unfolding value_at
      tower_map_high u h =
          ap (λ f. value_at big 2 (λ i. base_map big n s (f i)) t) (ap (coefficient n) (mod-eq_of_lt wide))
          ∙ val_open (product 1 n bit_mul g) k big ring (base_map big n s) carried t 1 (coefficient n (u * 2 ^ n + 0))
          ∙ ap₂ bit_xor (ap (base_map big n s) (coefficient_zero n (u * 2 ^ n + 0) ∙ mod_low u n 0 (pow_pos n)) ∙ carried_zero (product 1 n bit_mul g) k big ring (base_map big n s) carried t)
          (ap (big t) (val_open (product 1 n bit_mul g) k big ring (base_map big n s) carried t 0 (λ i. coefficient n (u * 2 ^ n + 0) (suc i))
          ∙ ap₂ bit_xor (ap (base_map big n s) (coefficient_suc n (u * 2 ^ n + 0) 0 ∙ ap (λ x. coefficient n x 0) (shr_high u n 0 (pow_pos n)) ∙ coefficient_zero n u ∙ mod-eq_of_lt h)) (mul_zero k big ring t)
          ∙ xor_zero_r (base_map big n s u)))
          ∙ xor_zero_l (big t (base_map big n s u))
        where
          wide : u * 2 ^ n + 0 < 2 ^ (n * 2)
          wide = rw (double_power n) (digits_lt h (pow_pos n))
            where
              double_power : (n : ℕ) → 2 ^ (n * 2) ≡ 2 ^ n * 2 ^ n
              double_power n = ap (λ m. 2 ^ m) (twice_is_sum n) ∙ pow-add 2 n n

      -- Y goes to the root
      pub tower_map_Y : tower_map big n s t (2 ^ n) ≡ t
      tower_map_Y =
          ap (tower_map big n s t) (once_plus_zero (2 ^ n)) ∙ tower_map_high 1 (one_below n (product 1 n bit_mul g) base_ring) ∙ ap (big t) carried.one ∙ mul_one k big ring t ht

      -- only 0 goes to 0
      pub tower_map_nonzero : (a : ℕ) → a < 2 ^ (n * 2) → tower_map big n s t a ≡ 0 → a ≡ 0
      tower_map_nonzero a h z = elim (cases_eq a 0) [
        | inl is ↦ is
        | inr other ↦ absurd (differ (sym tower_carried.one ∙ at (inverse_of (n * 2) (tower_product n g (c0 ∷ c1 ∷ [])) tower_ring (IsFieldBySquares-from (n * 2) (tower_product n g (c0 ∷ c1 ∷ [])) tower_ring tower.field) a h other)))
      ]
        where
          differ : ◌≡◌ {A = ℕ} 1 0 → ⊥
          differ e = omega arith

          at : HasInverse (n * 2) (tower_product n g (c0 ∷ c1 ∷ [])) a → tower_map big n s t 1 ≡ 0
          at v = ap (tower_map big n s t) (sym v.is) ∙ tower_carried.product a v.inverse ∙ ap (λ x. big x (tower_map big n s t v.inverse)) z ∙ zero_mul k big ring (tower_map big n s t v.inverse)
