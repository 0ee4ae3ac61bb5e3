-- The matrices of the search, and the isomorphism that the two least roots make.
use Rattle.std.proofs.Common.{◌≡◌, ℕ, suc, refl, sym, ◌∙◌, ap, ap₂, ◌<◌, ◌≤◌, ◌^◌, ◌+◌, ◌-◌, ◌*◌, ◌/◌, ◌%◌, inl, inr, arith, subst, one-mul, zero-mul, pow-add, lt_of_lt_of_le, pow_mono, List, [], ◌∷◌, length, get_or}
use Rattle.std.specs.Prelude.{bit_xor, None, Some, slice_index}
use Rattle.std.specs.Int.Bits.{xor_self, xor_zero_l}
use Rattle.std.proofs.lemmas.Bool.{cases_lt}
use Rattle.std.proofs.lemmas.Nat.{pow_below}
use native.Mathlib.Nat.{mod-eq_of_lt}
use Rattle.lists.specs.laws.NumberLaws.{bit_cases, parted, self_plus_zero, below_twice}
use Rattle.lists.specs.laws.XorLaws.{xor_same, xor_cross}
use mathlib.Core.Path.{fun_ext}
use Rattle.gf_field.specs.Ring.{IsRing}
use Rattle.gf_field.specs.Bit.{bit_mul}
use Rattle.gf_field.specs.Field.{HasNoZeroDivisors}
use Rattle.gf_field.specs.Power.{power}
use Rattle.gf_field.specs.laws.PowerLaws.{power_below}
use Rattle.gf_field.specs.Polynomial.{coefficient, sum_of_first, IsProductModulo}
use Rattle.gf_field.specs.Quotient.{rest}
use Rattle.gf_field.specs.laws.RingLaws.{zero_mul, square-xor}
use Rattle.gf_field.specs.laws.PackingLaws.{coefficient_below, coefficient_zero, coefficient_suc}
use Rattle.gf_field.specs.laws.PigeonholeLaws.{FoundAt}
use Rattle.gf_field.specs.Trace.{frobenius}
use Rattle.gf_field.specs.laws.ConvolutionLaws.{sum_of_first_open}
use Rattle.gf_field.specs.laws.TraceLaws.{frobenius-xor}
use Rattle.gf_tower.specs.FieldName.{tower_product}
use Rattle.gf_tower.specs.Tower.{tower_polynomial}
use Rattle.irreducible.specs.Span.{combination, InSpan, IsIndependent}
use Rattle.irreducible.specs.laws.SpanLaws.{combination-xor, combination_unit, combination_below}
use Rattle.irreducible.specs.laws.AdditiveLaws.{IsAdditive, combination-additive}
use Rattle.irreducible.specs.Matrix.{IsKernel, IsLeastSolution, AreInverse}
use Rattle.gf_iso.specs.Root.{value_at, IsLeastRoot}
use Rattle.gf_iso.specs.Isomorphism.{IsHomomorphism, IsIsoOf}
use Rattle.gf_iso.specs.private.Fields.{IsBaseField, IsTowerField, base_image, fixed, quadratic}
use Rattle.gf_iso.specs.private.Search.{IsLeastOf}
use Rattle.gf_iso.proofs.CarriedLaws.{IsCarried}
use Rattle.gf_iso.proofs.SubfieldLaws.{base_root_found, base_root_fixed}
use Rattle.gf_iso.proofs.TowerImageLaws.{base_map, tower_map, base_same, digits_same, base_map_x, base_ring, tower_root_found, root_quadratic, tower_ring, tower_carried, tower_map_base, tower_map_high, tower_map_Y, tower_map_nonzero}

module _ (k : ℕ) (big : ℕ → ℕ → ℕ) (ring : IsRing k big) where
  -- a sum of rows by bits
  bits_combination : (rows : List ℕ) (h : ℕ → ℕ) (u : ℕ) → ((i : ℕ) → h i < 2 ^ k) → ((i : ℕ) → i < length rows → get_or rows i 0 ≡ h i) → sum_of_first (length rows) (λ i. big (coefficient 1 u i) (h i)) ≡ combination rows u
  bits_combination [] h u below at = refl
  bits_combination (r ∷ rs) h u below at =
      sum_of_first_open (length rs) (λ i. big (coefficient 1 u i) (h i))
      ∙ ap₂ bit_xor (ap₂ big (coefficient_zero 1 u) (sym (at 0 (omega arith))) ∙ bit_times (u % 2) (omega arith) (rw (at 0 (omega arith)) (below 0)))
      (ap (sum_of_first (length rs)) (fun_ext (λ i. ap (λ b. big b (h (suc i))) (coefficient_suc 1 u i))) ∙ bits_combination rs (rest h) (u / 2) (λ i. below (suc i)) (λ i l. at (suc i) (omega arith)))
    where
      bit_times : (b : ℕ) → b < 2 → r < 2 ^ k → big b r ≡ b * r
      bit_times b hb hr = elim (bit_cases b hb) [
        | inl z ↦ rw z (zero_mul k big ring r ∙ sym (zero-mul r))
        | inr o ↦ rw o (ring.one r hr ∙ sym (one-mul r))
      ]

  -- the value at y of bits is a sum of powers of y
  pub value_combination : (y : ℕ) (rows : List ℕ) (m u : ℕ) → length rows ≡ m → ((i : ℕ) → i < length rows → get_or rows i 0 ≡ power big y i) → value_at big m (coefficient 1 u) y ≡ combination rows u
  unfolding value_at
  value_combination y rows m u size at = ap (λ l. sum_of_first l (λ i. big (coefficient 1 u i) (power big y i))) (sym size) ∙ bits_combination rows (power big y) u (power_below k big ring y) at

  IsAdditive-fixed : (n : ℕ) → IsAdditive (fixed big n)
  IsAdditive-fixed n = record { sum = λ a b. ap (λ x. bit_xor x (bit_xor a b)) (frobenius-xor k big ring n a b) ∙ xor_cross (frobenius big n a) (frobenius big n b) a b }

  IsAdditive-quadratic : (b : ℕ) → IsAdditive (quadratic big b)
  IsAdditive-quadratic b = record { sum = λ x y. ap₂ bit_xor (square-xor k big ring x y) (ring.distrib b x y) ∙ xor_cross (big x x) (big y y) (big b x) (big b y) }

  -- rows that are the values at the powers of 2
  module _ (f : ℕ → ℕ) (additive : IsAdditive f) (rows : List ℕ) (size : length rows ≡ k) (at : (j : ℕ) → j < k → slice_index rows j ≡ f (2 ^ j)) where
    rows_are : (v : ℕ) → v < 2 ^ k → combination rows v ≡ f v
    rows_are v h = combination-additive rows f additive (λ i l. at i (omega (arith, size))) v ∙ ap (λ m. f (v % 2 ^ m)) size ∙ ap f (mod-eq_of_lt h)

  module _ (field : HasNoZeroDivisors k big) where
    -- the least root of the base's modulus is found in the kernel
    module _ (n g : ℕ) (base : IsBaseField n g) (double : k ≡ n * 2) (rows vectors : List ℕ) (size : length rows ≡ k) (at : (j : ℕ) → j < k → slice_index rows j ≡ fixed big n (2 ^ j)) (kernel : IsKernel rows vectors) where
      in_kernel : (y : ℕ) → y < 2 ^ k → value_at big (suc n) (coefficient 1 g) y ≡ 0 → InSpan vectors y
      in_kernel y hy root = kernel.spans y (rw size hy) (rows_are (fixed big n) (IsAdditive-fixed n) rows size at y hy ∙ ap (λ x. bit_xor x y) (base_root_fixed n g base k big ring field double y hy root) ∙ xor_self y)

      pub base_none : IsLeastOf k (value_at big (suc n) (coefficient 1 g)) vectors 0 None → ⊥
      base_none none = at_root (base_root_found n g base k big ring field double)
        where
          at_root : FoundAt (λ y. value_at big (suc n) (coefficient 1 g) y) (2 ^ k) 0 → ⊥
          at_root w = let p : InSpan vectors w.at = in_kernel w.at w.below w.is in none p.choice (ap (value_at big (suc n) (coefficient 1 g)) (xor_zero_l (combination vectors p.choice) ∙ p.is) ∙ w.is)

      pub base_least : (y : ℕ) → IsLeastOf k (value_at big (suc n) (coefficient 1 g)) vectors 0 (Some y) → IsLeastRoot k big (suc n) (coefficient 1 g) y
      base_least y h = record {
        element = h.element;
        root = h.root;
        least = λ x hx z. let p : InSpan vectors x = in_kernel x hx z in let same : bit_xor 0 (combination vectors p.choice) ≡ x = xor_zero_l (combination vectors p.choice) ∙ p.is in
            subst (λ w. y ≤ w) same (h.least p.choice (ap (value_at big (suc n) (coefficient 1 g)) same ∙ z));
      }

    module _ (n g c0 c1 : ℕ) (tower : IsTowerField n g c0 c1) (double : k ≡ n * 2) (s : ℕ) (hs : IsLeastRoot k big (suc n) (coefficient 1 g) s) where
      tower_value : ℕ → ℕ
      tower_value y = value_at big 3 (λ i. base_image big n s (coefficient n (tower_polynomial n (c0 ∷ c1 ∷ [])) i)) y

      -- the least root of the tower's polynomial is the least solution of linear equations
      module _ (rows : List ℕ) (size : length rows ≡ k) (at : (j : ℕ) → j < k → slice_index rows j ≡ quadratic big (base_image big n s c1) (2 ^ j)) where
        to_equation : (y : ℕ) → y < 2 ^ k → tower_value y ≡ 0 → combination rows y ≡ base_image big n s c0
        unfolding tower_value
        to_equation y hy z =
            rows_are (quadratic big (base_image big n s c1)) (IsAdditive-quadratic (base_image big n s c1)) rows size at y hy
            ∙ sym (xor_same (base_image big n s c0) (quadratic big (base_image big n s c1) y) (sym (root_quadratic n g c0 c1 tower k big ring double s hs.element hs.root y hy) ∙ z))

        from_equation : (y : ℕ) → y < 2 ^ k → combination rows y ≡ base_image big n s c0 → tower_value y ≡ 0
        unfolding tower_value
        from_equation y hy e =
            root_quadratic n g c0 c1 tower k big ring double s hs.element hs.root y hy
            ∙ ap (bit_xor (base_image big n s c0)) (sym (rows_are (quadratic big (base_image big n s c1)) (IsAdditive-quadratic (base_image big n s c1)) rows size at y hy) ∙ e) ∙ xor_self (base_image big n s c0)

        pub tower_solvable : InSpan rows (base_image big n s c0)
        unfolding tower_value
        tower_solvable = at_root (tower_root_found n g c0 c1 tower k big ring double s hs.element hs.root field)
          where
            at_root : FoundAt (λ y. value_at big 3 (λ i. base_image big n s (coefficient n (tower_polynomial n (c0 ∷ c1 ∷ [])) i)) y) (2 ^ k) 0 → InSpan rows (base_image big n s c0)
            at_root w = record { choice = w.at; is = to_equation w.at w.below w.is }

        pub tower_least : (y : ℕ) → IsLeastSolution rows (base_image big n s c0) y → IsLeastRoot k big 3 (λ i. base_image big n s (coefficient n (tower_polynomial n (c0 ∷ c1 ∷ [])) i)) y
        unfolding tower_value
        tower_least y h = record {
          element = rw (sym size) h.word;
          root = from_equation y (rw (sym size) h.word) h.solves;
          least = λ x hx z. h.least x (rw size hx) (to_equation x hx z);
        }

      module _ (t : ℕ) (ht : IsLeastRoot k big 3 (λ i. base_image big n s (coefficient n (tower_polynomial n (c0 ∷ c1 ∷ [])) i)) t)
          (powers rows : List ℕ) (count : length powers ≡ n) (power_at : (j : ℕ) → j < n → slice_index powers j ≡ power big s j)
          (size : length rows ≡ n * 2) (low : (j : ℕ) → j < n → slice_index rows j ≡ slice_index powers j) (high : (j : ℕ) → j < n → slice_index rows (n + j) ≡ big t (slice_index powers j)) where
        base_unit : (j : ℕ) → j < n → base_map big n s (2 ^ j) ≡ slice_index powers j
        unfolding base_image
        base_unit j h = base_same big n s (2 ^ j) (pow_below j n h) ∙ value_combination s powers n (2 ^ j) count (λ i l. power_at i (omega (arith, count))) ∙ combination_unit powers j

        row_is : (i : ℕ) → i < length rows → get_or rows i 0 ≡ tower_map big n s t (2 ^ i)
        row_is i l = elim (cases_lt i n) [
          | inl h ↦ low i h ∙ sym (base_unit i h) ∙ sym (tower_map_base n g c0 c1 tower k big ring double s hs.element hs.root t ht.element ht.root (2 ^ i) (pow_below i n h))
          | inr h ↦
              let below : i - n < n = omega (arith, size) in
              ap (λ j. get_or rows j 0) (back i n h) ∙ high (i - n) below
              ∙ ap (big t) (sym (base_unit (i - n) below))
              ∙ sym (tower_map_high n g c0 c1 tower k big ring double s hs.element hs.root t ht.element ht.root (2 ^ (i - n)) (pow_below (i - n) n below))
              ∙ ap (tower_map big n s t) (sym (ap (λ m. 2 ^ m) (parted i n h) ∙ pow-add 2 (i - n) n ∙ self_plus_zero (2 ^ (i - n) * 2 ^ n)))
        ]
          where
            back : (i n : ℕ) → n ≤ i → i ≡ n + (i - n)
            back i n h = omega arith

        additive : IsAdditive (tower_map big n s t)
        additive = record { sum = (tower_carried n g c0 c1 tower k big ring double s hs.element hs.root t ht.element ht.root).sum }

        there_is : (a : ℕ) → a < 2 ^ (n * 2) → combination rows a ≡ tower_map big n s t a
        there_is a h = combination-additive rows (tower_map big n s t) additive row_is a ∙ ap (λ m. tower_map big n s t (a % 2 ^ m)) size ∙ ap (tower_map big n s t) (mod-eq_of_lt h)

        pub rows_below : (i : ℕ) → i < length rows → get_or rows i 0 < 2 ^ (n * 2)
        rows_below i l = subst (λ m. get_or rows i 0 < 2 ^ m) double (rw (row_is i l) ((tower_carried n g c0 c1 tower k big ring double s hs.element hs.root t ht.element ht.root).below (2 ^ i)))

        pub rows_independent : IsIndependent rows
        rows_independent = record {
          only_zero = λ c h z. let hc : c < 2 ^ (n * 2) = (rw size at h) in
              tower_map_nonzero n g c0 c1 tower k big ring double s hs.element hs.root t ht.element ht.root c hc (sym (there_is c hc) ∙ z);
        }

        pub made : (origins : List ℕ) → AreInverse rows origins → IsIsoOf n g (c0 ∷ c1 ∷ []) big (combination rows) (combination origins)
        made origins inverse = record {
          isomorphism = record { there_keeps = there_keeps; back_keeps = back_keeps; undone = undone; redone = redone };
          base_root = λ x p. subst (IsLeastRoot (n * 2) big (suc n) (coefficient 1 g)) (sym (there_x x p)) (subst (λ m. IsLeastRoot m big (suc n) (coefficient 1 g) s) double hs);
          tower_root = subst (λ f. IsLeastRoot (n * 2) big 3 f (combination rows (2 ^ n))) (sym digits)
              (subst (IsLeastRoot (n * 2) big 3 (λ i. base_image big n s (coefficient n (tower_polynomial n (c0 ∷ c1 ∷ [])) i))) (sym there_Y)
              (subst (λ m. IsLeastRoot m big 3 (λ i. base_image big n s (coefficient n (tower_polynomial n (c0 ∷ c1 ∷ [])) i)) t) double ht));
        }
          where
            maps : IsCarried (tower_product n g (c0 ∷ c1 ∷ [])) k big (tower_map big n s t)
            maps = tower_carried n g c0 c1 tower k big ring double s hs.element hs.root t ht.element ht.root

            wide : (u : ℕ) → u < 2 ^ n → u < 2 ^ (n * 2)
            wide u l = lt_of_lt_of_le l (pow_mono (omega arith))

            there_base : (u : ℕ) → u < 2 ^ n → combination rows u ≡ base_map big n s u
            there_base u l = there_is u (wide u l) ∙ tower_map_base n g c0 c1 tower k big ring double s hs.element hs.root t ht.element ht.root u l

            short : (x : ℕ) → IsProductModulo 1 n bit_mul g 2 1 x → x < 2 ^ n
            short x p = subst (λ m. x < 2 ^ m) (one-mul n) p.short

            there_x : (x : ℕ) → IsProductModulo 1 n bit_mul g 2 1 x → combination rows x ≡ s
            there_x x p = there_base x (short x p) ∙ base_map_x k big ring s hs.element n g x tower.base hs.root p

            there_Y : combination rows (2 ^ n) ≡ t
            there_Y = there_is (2 ^ n) (pow_below n (n * 2) (below_twice n (base_ring n g c0 c1 tower).some)) ∙ tower_map_Y n g c0 c1 tower k big ring double s hs.element hs.root t ht.element ht.root

            digits : ◌≡◌ {A = ℕ → ℕ} (λ i. combination rows (coefficient n (tower_polynomial n (c0 ∷ c1 ∷ [])) i)) (λ i. base_image big n s (coefficient n (tower_polynomial n (c0 ∷ c1 ∷ [])) i))
            digits = fun_ext (λ i. there_base (coefficient n (tower_polynomial n (c0 ∷ c1 ∷ [])) i) (coefficient_below n (tower_polynomial n (c0 ∷ c1 ∷ [])) i)) ∙ digits_same big n s (tower_polynomial n (c0 ∷ c1 ∷ []))

            element : (a : ℕ) → combination rows a < 2 ^ (n * 2)
            element a = combination_below rows (n * 2) a rows_below

            back_element : (a : ℕ) → combination origins a < 2 ^ (n * 2)
            back_element a = combination_below origins (n * 2) a (λ i l. subst (λ m. get_or origins i 0 < 2 ^ m) (inverse.size ∙ size) (inverse.square i l))

            undone : (a : ℕ) → a < 2 ^ (n * 2) → combination origins (combination rows a) ≡ a
            undone a h = inverse.before a (rw size h)

            redone : (a : ℕ) → a < 2 ^ (n * 2) → combination rows (combination origins a) ≡ a
            redone a h = inverse.after a (rw size h)

            keeps_product : (a b : ℕ) → a < 2 ^ (n * 2) → b < 2 ^ (n * 2) → combination rows (tower_product n g (c0 ∷ c1 ∷ []) a b) ≡ big (combination rows a) (combination rows b)
            keeps_product a b ha hb = there_is (tower_product n g (c0 ∷ c1 ∷ []) a b) ((tower_ring n g c0 c1 tower).closed a b) ∙ maps.product a b ∙ ap₂ big (sym (there_is a ha)) (sym (there_is b hb))

            one_is : combination rows 1 ≡ 1
            one_is = there_is 1 (pow_below 0 (n * 2) (tower_ring n g c0 c1 tower).some) ∙ maps.one

            there_keeps : IsHomomorphism (n * 2) (tower_product n g (c0 ∷ c1 ∷ [])) big (combination rows)
            there_keeps = record {
              element = λ a h. element a;
              sum = λ a b ha hb. combination-xor rows a b;
              product = keeps_product;
              one = one_is;
            }

            back_keeps : IsHomomorphism (n * 2) big (tower_product n g (c0 ∷ c1 ∷ [])) (combination origins)
            back_keeps = record {
              element = λ a h. back_element a;
              sum = λ a b ha hb. combination-xor origins a b;
              product = λ a b ha hb.
                  ap (combination origins) (sym (keeps_product (combination origins a) (combination origins b) (back_element a) (back_element b) ∙ ap₂ big (redone a ha) (redone b hb)))
                  ∙ undone (tower_product n g (c0 ∷ c1 ∷ []) (combination origins a) (combination origins b)) ((tower_ring n g c0 c1 tower).closed (combination origins a) (combination origins b));
              one = ap (combination origins) (sym one_is) ∙ undone 1 (pow_below 0 (n * 2) (tower_ring n g c0 c1 tower).some);
            }
