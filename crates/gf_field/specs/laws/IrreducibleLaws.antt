-- A quotient has no zero divisors exactly where its modulus is irreducible.
use Rattle.std.proofs.Common.{◌≡◌, ◌≢◌, ℕ, zero, suc, sym, ◌∙◌, ap, ap₂, ◌<◌, ◌≤◌, ◌^◌, ◌+◌, ◌*◌, ◌⊎◌, inl, inr, arith, pow_pos, add-zero, pow_mono, lt_of_lt_of_le, mul-le-mul_left, le_trans, mul-le-mul_right}
use Rattle.std.specs.Prelude.{bit_xor}
use Rattle.std.specs.Int.Bits.{xor_self, xor_lt, xor_zero_r, xor_comm}
use Rattle.std.proofs.lemmas.Bool.{cases_eq, cases_lt}
use Rattle.lists.specs.laws.NumberLaws.{at_most_once}
use Rattle.lists.specs.laws.XorLaws.{xor_cancel}
use mathlib.Core.Path.{fun_ext}
use Rattle.gf_field.specs.Ring.{IsRing}
use Rattle.gf_field.specs.Field.{HasNoZeroDivisors}
use Rattle.gf_field.specs.laws.FieldLaws.{inverse_of, IsFieldBySquares-from}
use Rattle.gf_field.specs.Polynomial.{coefficient, convolution, IsProductModulo, IsDegree, IsTimes, IsIrreducible, IsMonic}
use Rattle.gf_field.specs.Quotient.{none, unit, plus, times, shift, rest, packed, product, HasQuotientFields}
use Rattle.gf_field.specs.laws.ConvolutionLaws.{convolution_comm, convolution_xor_left, convolution_assoc}
use Rattle.gf_field.specs.laws.QuotientLaws.{EndsAt, AllBelow}
use Rattle.gf_field.specs.laws.RingLaws.{mul_zero, zero_mul}
use Rattle.gf_field.specs.laws.PackingLaws.{self_below, packed_none, below_from_ends, coefficient-packed, packed-coefficient, coefficient_below, coefficient_ends, coefficient_none, coefficient_one}
use Rattle.gf_field.specs.laws.ProductLaws.{convolution_open, convolution_none, no_multiple, IsProductModulo-product, IsProduct_same}
use Rattle.gf_field.specs.laws.DivisionLaws.{IsDivided, divide, convolution_top, convolution_ends, convolution_below}

abbrev IsZero : (ℕ → ℕ) → Type 0
IsZero f = (i : ℕ) → f i ≡ 0

zero_or : (m : ℕ) (f : ℕ → ℕ) → EndsAt m f → IsZero f ⊎ (IsZero f → ⊥)
zero_or zero f h = inl (λ i. h i (omega arith))
zero_or (suc m) f h = elim (cases_eq (f 0) 0) [
  | inr ne ↦ inr (λ z. ne (z 0))
  | inl z ↦ elim (zero_or m (rest f) (λ i l. h (suc i) (omega arith))) [
    | inl all ↦ inl (at z all)
    | inr ne ↦ inr (λ all. ne (λ i. all (suc i)))
  ]
]
  where
    at : f 0 ≡ 0 → IsZero (rest f) → IsZero f
    at z all zero = z
    at z all (suc i) = all i

module _ (n : ℕ) (mul : ℕ → ℕ → ℕ) (ring : IsRing n mul) (field : HasNoZeroDivisors n mul) (e g : ℕ) (monic : IsMonic n (suc e) g) where
  -- a factor of a multiple of g whose degree is small
  module _ (prime : IsIrreducible n mul g) (v : ℕ → ℕ) (bv : AllBelow n v) (ev : EndsAt (suc e) v) (nv : IsZero v → ⊥) where
    constant : (u : ℕ → ℕ) → AllBelow n u → EndsAt 1 u → u 0 ≢ 0 → (s : ℕ) (q : ℕ → ℕ) → AllBelow n q → EndsAt s q → convolution mul u v ≡ convolution mul q (coefficient n g) → ⊥
    constant u bu eu ne s q bq eq is = nv (λ i. elim (cases_eq (v i) 0) [ inl z ↦ z | inr o ↦ absurd (field.nonzero (u 0) (v i) (bu 0) (bv i) ne o (at i)) ])
      where
        scaled : (i : ℕ) → convolution mul u v i ≡ mul (u 0) (v i)
        scaled i = ap (λ h. h i) (convolution_open mul u v) ∙ ap (λ h. plus (times mul (u 0) v) (shift h) i) (ap (λ h. convolution mul h v) (fun_ext (λ j. eu (suc j) (omega arith))) ∙ fun_ext (convolution_none n mul ring v)) ∙ flat i
          where
            flat : (i : ℕ) → plus (times mul (u 0) v) (shift none) i ≡ mul (u 0) (v i)
            flat zero = xor_zero_r (mul (u 0) (v 0))
            flat (suc i) = xor_zero_r (mul (u 0) (v (suc i)))

        no_q : (i : ℕ) → q i ≡ 0
        no_q = no_multiple n mul ring e (coefficient n g) monic.leading monic.last s q bq eq (λ i h. ap (λ h. h i) (sym is) ∙ scaled i ∙ ap (mul (u 0)) (ev i h) ∙ mul_zero n mul ring (u 0))

        at : (i : ℕ) → mul (u 0) (v i) ≡ 0
        at i = sym (scaled i) ∙ ap (λ h. h i) is ∙ ap (λ h. convolution mul h (coefficient n g) i) (fun_ext no_q) ∙ convolution_none n mul ring (coefficient n g) i

    abbrev NoFactor : ℕ → Type 0
    NoFactor m = (u : ℕ → ℕ) → AllBelow n u → EndsAt (suc m) u → (IsZero u → ⊥) → (s : ℕ) (q : ℕ → ℕ) → AllBelow n q → EndsAt s q → convolution mul u v ≡ convolution mul q (coefficient n g) → ⊥

    no_factor : (m k : ℕ) → m + k ≡ e → NoFactor m
    no_factor zero k le u bu eu nu s q bq eq is = constant u bu eu (λ z. nu (at z)) s q bq eq is
      where
        at : u 0 ≡ 0 → IsZero u
        at z zero = z
        at z (suc i) = eu (suc i) (omega arith)
    no_factor (suc m) k le u bu eu nu s q bq eq is = elim (cases_eq (u (suc m)) 0) [
      | inl z ↦ no_factor m (suc k) (moved m k le) u bu (lower z) nu s q bq eq is
      | inr ne ↦ step (no_factor m (suc k) (moved m k le)) (divide n mul ring u m bu eu (inverse_of n mul ring (IsFieldBySquares-from n mul ring field) (u (suc m)) (bu (suc m)) ne) (suc (suc k)) (coefficient n g) (coefficient_below n g) ends_g) ne
    ]
      where
        moved : (m k : ℕ) → suc m + k ≡ e → m + suc k ≡ e
        moved m k h = omega arith

        lower : u (suc m) ≡ 0 → EndsAt (suc m) u
        lower z i h = elim (cases_eq i (suc m)) [ inl same ↦ ap u same ∙ z | inr other ↦ eu i (omega arith) ]

        ends_g : EndsAt (suc m + suc (suc k)) (coefficient n g)
        ends_g i h = monic.last i (omega arith)

        step : NoFactor m → IsDivided n mul ring u (suc m) (suc (suc k)) (coefficient n g) → u (suc m) ≢ 0 → ⊥
        step ih d ne = elim (zero_or (suc m) d.remainder d.remainder_ends) [
          | inl z ↦ prime.prime (packed n (suc (suc k)) d.factor) (packed n (suc (suc m)) u) (suc k) (suc m) (factor_degree z) u_degree (omega arith) (omega arith) (times_is z)
          | inr nz ↦ ih d.remainder d.remainder_below d.remainder_ends nz (suc e + (suc (suc k) + s)) (plus v (convolution mul d.factor q))
              (λ i. xor_lt n _ _ (bv i) (convolution_below n mul ring d.factor q i))
              (λ i h. ap₂ bit_xor (ev i (omega arith)) (convolution_ends n mul ring (suc (suc k)) s d.factor q d.factor_ends (λ j l. eq j (omega arith)) i (omega arith)) ∙ xor_self 0)
              (fun_ext again)
        ]
          where
            unpacked : (f : ℕ → ℕ) (l : ℕ) → AllBelow n f → EndsAt l f → coefficient n (packed n l f) ≡ f
            unpacked f l b x = fun_ext (coefficient-packed n l f b x)

            is_factor : IsZero d.remainder → coefficient n g ≡ convolution mul d.factor u
            is_factor z = d.is ∙ fun_ext (λ i. ap (bit_xor (convolution mul d.factor u i)) (z i) ∙ xor_zero_r (convolution mul d.factor u i))

            times_is : IsZero d.remainder → IsTimes n mul (packed n (suc (suc k)) d.factor) (packed n (suc (suc m)) u) g
            times_is z = record { same = λ i. ap₂ (λ a b. convolution mul a b i) (unpacked d.factor (suc (suc k)) d.factor_below d.factor_ends) (unpacked u (suc (suc m)) bu eu) ∙ ap (λ h. h i) (sym (is_factor z)) }

            u_degree : IsDegree n (suc m) (packed n (suc (suc m)) u)
            u_degree = record {
              leading = λ z. ne (sym (coefficient-packed n (suc (suc m)) u bu eu (suc m)) ∙ z);
              last = λ i h. coefficient-packed n (suc (suc m)) u bu eu i ∙ eu i h;
            }

            one_is : IsZero d.remainder → d.factor (suc k) ≡ 0 → ◌≡◌ {A = ℕ} 1 0
            one_is z h =
                sym monic.leading ∙ ap (coefficient n g) (total m k le) ∙ ap (λ h. h (suc k + suc m)) (is_factor z)
                ∙ convolution_top n mul ring (suc k) (suc m) d.factor u d.factor_ends eu
                ∙ ap (λ x. mul x (u (suc m))) h ∙ zero_mul n mul ring (u (suc m))
              where
                total : (m k : ℕ) → suc m + k ≡ e → suc e ≡ suc k + suc m
                total m k h = omega arith

            factor_degree : IsZero d.remainder → IsDegree n (suc k) (packed n (suc (suc k)) d.factor)
            factor_degree z = record {
              leading = λ h. differ (one_is z (sym (coefficient-packed n (suc (suc k)) d.factor d.factor_below d.factor_ends (suc k)) ∙ h));
              last = λ i h. coefficient-packed n (suc (suc k)) d.factor d.factor_below d.factor_ends i ∙ d.factor_ends i h;
            }
              where
                differ : ◌≡◌ {A = ℕ} 1 0 → ⊥
                differ h = omega arith

            remainder_is : d.remainder ≡ plus (coefficient n g) (convolution mul d.factor u)
            remainder_is = fun_ext (λ i. sym (ap (λ h. bit_xor (h i) (convolution mul d.factor u i)) d.is ∙ turn (convolution mul d.factor u i) (d.remainder i)))
              where
                turn : (a b : ℕ) → bit_xor (bit_xor a b) a ≡ b
                turn a b = xor_comm (bit_xor a b) a ∙ xor_cancel a b

            again : (i : ℕ) → convolution mul d.remainder v i ≡ convolution mul (plus v (convolution mul d.factor q)) (coefficient n g) i
            again i =
                ap (λ h. convolution mul h v i) remainder_is
                ∙ convolution_xor_left n mul ring (coefficient n g) (convolution mul d.factor u) v i
                ∙ ap₂ bit_xor (convolution_comm n mul ring (coefficient n g) v i)
                (convolution_assoc n mul ring d.factor u v i ∙ ap (λ h. convolution mul d.factor h i) is ∙ sym (convolution_assoc n mul ring d.factor q (coefficient n g) i))
                ∙ sym (convolution_xor_left n mul ring v (convolution mul d.factor q) (coefficient n g) i)

  some_part : (u : ℕ) → u < 2 ^ (n * suc e) → u ≢ 0 → IsZero (coefficient n u) → ⊥
  some_part u h ne z = ne (sym (packed-coefficient n (suc e) u h) ∙ ap (packed n (suc e)) (fun_ext z) ∙ packed_none n (suc e))

  pub HasNoZeroDivisors-from_irreducible : IsIrreducible n mul g → HasNoZeroDivisors (n * suc e) (product n (suc e) mul g)
  HasNoZeroDivisors-from_irreducible prime = record {
    nonzero = λ u v hu hv nu nv z. at u v hu hv nu nv (IsProductModulo-product n mul ring e g monic u v hu hv) z;
  }
    where
      at : (u v : ℕ) → u < 2 ^ (n * suc e) → v < 2 ^ (n * suc e) → u ≢ 0 → v ≢ 0 → IsProductModulo n (suc e) mul g u v (product n (suc e) mul g u v) → product n (suc e) mul g u v ≡ 0 → ⊥
      at u v hu hv nu nv p z =
          no_factor prime (coefficient n v) (coefficient_below n v) (coefficient_ends n (suc e) v hv) (some_part v hv nv) e 0 (add-zero e)
          (coefficient n u) (coefficient_below n u) (coefficient_ends n (suc e) u hu) (some_part u hu nu)
          p.quotient (coefficient n p.quotient) (coefficient_below n p.quotient) (coefficient_ends n p.quotient p.quotient (small p.quotient))
          (fun_ext (λ i. sym (xor_zero_r (convolution mul (coefficient n u) (coefficient n v) i)) ∙ ap (bit_xor (convolution mul (coefficient n u) (coefficient n v) i)) (sym (ap (λ x. coefficient n x i) z ∙ coefficient_none n i)) ∙ p.multiple i))
        where
          small : (q : ℕ) → q < 2 ^ (n * q)
          small q = lt_of_lt_of_le (self_below q) (pow_mono (le_trans (at_most_once q) (mul-le-mul_right q ring.some)))

  convolution_unit : (f : ℕ → ℕ) → AllBelow n f → convolution mul unit f ≡ f
  convolution_unit f b = convolution_open mul unit f ∙ ap (λ h. plus (times mul 1 f) (shift h)) (fun_ext (convolution_none n mul ring f)) ∙ fun_ext at
    where
      at : (i : ℕ) → plus (times mul 1 f) (shift none) i ≡ f i
      at zero = xor_zero_r (mul 1 (f 0)) ∙ ring.one (f 0) (b 0)
      at (suc i) = xor_zero_r (mul 1 (f (suc i))) ∙ ring.one (f (suc i)) (b (suc i))

  pub IsIrreducible-from_field : HasNoZeroDivisors (n * suc e) (product n (suc e) mul g) → IsIrreducible n mul g
  IsIrreducible-from_field quotient = record {
    degree = suc e;
    is_degree = record { leading = λ z. differ (sym monic.leading ∙ z); last = monic.last };
    positive = omega arith;
    prime = prime_at;
  }
    where
      differ : ◌≡◌ {A = ℕ} 1 0 → ⊥
      differ h = omega arith

      at : (a b i j : ℕ) → IsDegree n (suc i) a → IsDegree n (suc j) b → IsTimes n mul a b g → ⊥
      at a b i j da db t = quotient.nonzero a b (low a i (omega arith) da) (low b j (omega arith) db) (λ z. da.leading (ap (λ x. coefficient n x (suc i)) z ∙ coefficient_none n (suc i))) (λ z. db.leading (ap (λ x. coefficient n x (suc j)) z ∙ coefficient_none n (suc j)))
          (IsProduct_same n mul ring e g monic a b (product n (suc e) mul g a b) 0 (IsProductModulo-product n mul ring e g monic a b (low a i (omega arith) da) (low b j (omega arith) db)) whole)
        where
          ends_a : EndsAt (suc (suc i)) (coefficient n a)
          ends_a x h = da.last x h

          ends_b : EndsAt (suc (suc j)) (coefficient n b)
          ends_b x h = db.last x h

          top_nonzero : coefficient n g (suc i + suc j) ≢ 0
          top_nonzero z = field.nonzero (coefficient n a (suc i)) (coefficient n b (suc j)) (coefficient_below n a (suc i)) (coefficient_below n b (suc j)) da.leading db.leading
              (sym (convolution_top n mul ring (suc i) (suc j) (coefficient n a) (coefficient n b) ends_a ends_b) ∙ t.same (suc i + suc j) ∙ z)

          upper : suc i + suc j ≤ suc e
          upper = elim (cases_lt (suc e) (suc i + suc j)) [ inl h ↦ absurd (top_nonzero (monic.last (suc i + suc j) h)) | inr h ↦ h ]

          low : (x l : ℕ) → suc l + 1 ≤ suc i + suc j → IsDegree n (suc l) x → x < 2 ^ (n * suc e)
          low x l h d = lt_of_lt_of_le (below_from_ends n (suc (suc l)) x ring.some (λ y k. d.last y k)) (pow_mono (mul-le-mul_left n (omega (arith, upper))))

          whole : IsProductModulo n (suc e) mul g a b 0
          whole = record {
            short = pow_pos (n * suc e);
            quotient = 1;
            multiple = λ x. ap (bit_xor (convolution mul (coefficient n a) (coefficient n b) x)) (coefficient_none n x) ∙ xor_zero_r (convolution mul (coefficient n a) (coefficient n b) x) ∙ t.same x
                ∙ sym (ap (λ h. convolution mul h (coefficient n g) x) (coefficient_one n ring.some) ∙ ap (λ h. h x) (convolution_unit (coefficient n g) (coefficient_below n g)));
          }

      prime_at : (a b i j : ℕ) → IsDegree n i a → IsDegree n j b → 1 ≤ i → 1 ≤ j → IsTimes n mul a b g → ⊥
      prime_at a b zero j da db hi hj t = absurd (omega arith)
      prime_at a b (suc i) zero da db hi hj t = absurd (omega arith)
      prime_at a b (suc i) (suc j) da db hi hj t = at a b i j da db t

pub HasQuotientFields-from_field : (n : ℕ) (mul : ℕ → ℕ → ℕ) → IsRing n mul → HasNoZeroDivisors n mul → HasQuotientFields n mul
HasQuotientFields-from_field n mul ring field zero g some monic = absurd (omega arith)
HasQuotientFields-from_field n mul ring field (suc e) g some monic =
    (IsIrreducible-from_field n mul ring field e g monic, HasNoZeroDivisors-from_irreducible n mul ring field e g monic)
