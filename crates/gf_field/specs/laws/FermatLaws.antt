-- Each element of a field is its own power by the number of elements.
use Rattle.std.proofs.Common.{◌≡◌, ◌≢◌, ℕ, zero, suc, pred, refl, sym, ◌∙◌, ap, ap₂, ◌<◌, ◌≤◌, ◌^◌, ◌-◌, ◌⊎◌, inl, inr, arith, pow_pos, not-suc-le-zero, eq-or-lt_of_le}
use Rattle.std.specs.Prelude.{bit_xor}
use Rattle.std.specs.Int.Bits.{xor_self, xor_lt}
use Rattle.std.proofs.lemmas.Bool.{cases_eq}
use Rattle.lists.specs.laws.NumberLaws.{below_differs}
use Rattle.lists.specs.laws.XorLaws.{xor_same}
use mathlib.Core.Path.{fun_ext}
use Rattle.gf_field.specs.Ring.{IsRing}
use Rattle.gf_field.specs.Field.{HasNoZeroDivisors}
use Rattle.gf_field.specs.Power.{power}
use Rattle.gf_field.specs.laws.PowerLaws.{power_below, one_below}
use Rattle.gf_field.specs.laws.RingLaws.{zero_mul, mul_one, mul_left_comm}
use Rattle.gf_field.specs.laws.PigeonholeLaws.{Meets, pigeonhole, find, chosen}

-- the product of the first n values of f
pub product_to : (ℕ → ℕ → ℕ) → (ℕ → ℕ) → ℕ → ℕ
product_to mul f zero = 1
product_to mul f (suc n) = mul (f n) (product_to mul f n)

-- f, but c at place j
abbrev pub replaced : ℕ → ℕ → (ℕ → ℕ) → ℕ → ℕ
replaced j c f i = chosen (cases_eq i j) c (f i)

pub replaced_same : (j c : ℕ) (f : ℕ → ℕ) → replaced j c f j ≡ c
replaced_same j c f = go (cases_eq j j)
  where
    go : (s : (j ≡ j) ⊎ (j ≢ j)) → chosen s c (f j) ≡ c
    go (inl p) = refl
    go (inr p) = absurd (p refl)

pub replaced_other : (j c : ℕ) (f : ℕ → ℕ) (i : ℕ) → i ≢ j → replaced j c f i ≡ f i
replaced_other j c f i ne = go (cases_eq i j)
  where
    go : (s : (i ≡ j) ⊎ (i ≢ j)) → chosen s c (f i) ≡ f i
    go (inl p) = absurd (ne p)
    go (inr p) = refl

replaced_map : (h : ℕ → ℕ) (j c : ℕ) (f : ℕ → ℕ) (i : ℕ) → replaced j (h c) (λ x. h (f x)) i ≡ h (replaced j c f i)
replaced_map h j c f i = go (cases_eq i j)
  where
    go : (s : (i ≡ j) ⊎ (i ≢ j)) → chosen s (h c) (h (f i)) ≡ h (chosen s c (f i))
    go (inl p) = refl
    go (inr p) = refl

-- p is one to one on the numbers below n, and stays there
pub record IsShuffle (p : ℕ → ℕ) (n : ℕ) : Type 0 where
  pub below : (i : ℕ) → i < n → p i < n
  pub apart : (i j : ℕ) → i < n → j < n → p i ≡ p j → i ≡ j

-- without the last place, where that stays
shuffle_last : (p : ℕ → ℕ) (m : ℕ) → IsShuffle p (suc m) → ((i : ℕ) → i < m → p i ≢ m) → IsShuffle p m
shuffle_last p m s other = record {
  below = λ i h. let low : p i < suc m = s.below i (omega arith) in let ne : p i ≢ m = other i h in omega arith;
  apart = λ i j hi hj e. s.apart i j (omega arith) (omega arith) e;
}

stays : (p : ℕ → ℕ) (m : ℕ) → IsShuffle p (suc m) → ((i : ℕ) → i < m → p i ≢ m) → p m ≡ m
stays p m s other = elim (cases_eq (p m) m) [ inl is ↦ is | inr ne ↦ absurd (clash ne (pigeonhole m p (low ne))) ]
  where
    low : p m ≢ m → (i : ℕ) → i ≤ m → p i < m
    low ne i h = elim (eq-or-lt_of_le h) [
      | inl last ↦ rw (last) (let b : p m < suc m = s.below m (omega arith) in omega arith)
      | inr less ↦ let b : p i < suc m = s.below i (omega arith) in let n : p i ≢ m = other i less in omega arith
    ]

    clash : p m ≢ m → Meets p m → ⊥
    clash ne w = below_differs w.first w.second w.ordered (s.apart w.first w.second (omega (arith, w.ordered, w.within)) (omega (arith, w.within)) w.same)

-- with the place that goes to the last one sent elsewhere
shuffle_moved : (p : ℕ → ℕ) (m j : ℕ) → IsShuffle p (suc m) → j < m → p j ≡ m → IsShuffle (replaced j (p m) p) m
shuffle_moved p m j s hj is = record { below = low; apart = apart }
  where
    top_low : p m < m
    top_low = let b : p m < suc m = s.below m (omega arith) in elim (cases_eq (p m) m) [ inl e ↦ (let k : m ≡ j = s.apart m j (omega arith) (omega arith) (e ∙ sym is) in omega arith) | inr ne ↦ omega arith ]

    other_low : (i : ℕ) → i < m → i ≢ j → p i < m
    other_low i h ne = let b : p i < suc m = s.below i (omega arith) in elim (cases_eq (p i) m) [ inl e ↦ absurd (ne (s.apart i j (omega arith) (omega arith) (e ∙ sym is))) | inr n ↦ omega arith ]

    low : (i : ℕ) → i < m → replaced j (p m) p i < m
    low i h = elim (cases_eq i j) [
      | inl same ↦ rw (same) (rw (replaced_same j (p m) p) top_low)
      | inr ne ↦ rw (replaced_other j (p m) p i ne) (other_low i h ne)
    ]

    not_top : (i : ℕ) → i < m → p i ≢ p m
    not_top i h e = let k : i ≡ m = s.apart i m (omega arith) (omega arith) e in (omega arith)

    apart : (i l : ℕ) → i < m → l < m → replaced j (p m) p i ≡ replaced j (p m) p l → i ≡ l
    apart i l hi hl e = elim (cases_eq i j) [
      | inl same ↦ elim (cases_eq l j) [
        | inl again ↦ same ∙ sym again
        | inr ne ↦ absurd (not_top l hl (sym (replaced_other j (p m) p l ne) ∙ sym e ∙ ap (replaced j (p m) p) same ∙ replaced_same j (p m) p))
      ]
      | inr ne ↦ elim (cases_eq l j) [
        | inl again ↦ absurd (not_top i hi (sym (replaced_other j (p m) p i ne) ∙ e ∙ ap (replaced j (p m) p) again ∙ replaced_same j (p m) p))
        | inr nl ↦ s.apart i l (omega arith) (omega arith) (sym (replaced_other j (p m) p i ne) ∙ e ∙ replaced_other j (p m) p l nl)
      ]
    ]

module _ (k : ℕ) (mul : ℕ → ℕ → ℕ) (ring : IsRing k mul) where
  replaced_above : (j c : ℕ) (f : ℕ → ℕ) (n : ℕ) → n ≤ j → product_to mul (replaced j c f) n ≡ product_to mul f n
  unfolding product_to
  replaced_above j c f zero h = refl
  replaced_above j c f (suc n) h = ap₂ mul (replaced_other j c f n (λ e. differ n j h e)) (replaced_above j c f n (omega arith))
    where
      differ : (n j : ℕ) → suc n ≤ j → n ≡ j → ⊥
      differ n j h e = omega arith

  product_replaced : (j c : ℕ) (f : ℕ → ℕ) (n : ℕ) → j < n → mul c (product_to mul f n) ≡ mul (f j) (product_to mul (replaced j c f) n)
  unfolding product_to
  product_replaced j c f zero h = absurd (not-suc-le-zero h)
  product_replaced j c f (suc n) h = elim (eq-or-lt_of_le h) [
    | inl last ↦ at_last (same_of j n last)
    | inr less ↦
        mul_left_comm k mul ring c (f n) (product_to mul f n)
        ∙ ap (mul (f n)) (product_replaced j c f n (omega arith))
        ∙ mul_left_comm k mul ring (f n) (f j) (product_to mul (replaced j c f) n)
        ∙ ap (λ x. mul (f j) (mul x (product_to mul (replaced j c f) n))) (sym (replaced_other j c f n (differ j n less)))
  ]
    where
      same_of : (j n : ℕ) → suc j ≡ suc n → n ≡ j
      same_of j n e = omega arith

      differ : (j n : ℕ) → suc j < suc n → n ≡ j → ⊥
      differ j n h e = omega arith

      at_last : n ≡ j → mul c (mul (f n) (product_to mul f n)) ≡ mul (f j) (mul (replaced j c f n) (product_to mul (replaced j c f) n))
      at_last e =
          mul_left_comm k mul ring c (f n) (product_to mul f n)
          ∙ ap₂ mul (ap f e) (ap₂ mul (sym (ap (replaced j c f) e ∙ replaced_same j c f)) (sym (replaced_above j c f n (omega arith))))

  -- a shuffle of the factors leaves the product
  pub product_shuffle : (n : ℕ) (p : ℕ → ℕ) → IsShuffle p n → (h : ℕ → ℕ) → product_to mul (λ i. h (p i)) n ≡ product_to mul h n
  unfolding product_to
  product_shuffle zero p s h = refl
  product_shuffle (suc m) p s h = elim (find p m m) [
    | inl w ↦
        product_replaced w.at (h (p m)) (λ i. h (p i)) m w.below
        ∙ ap₂ mul (ap h w.is)
        (ap (λ f. product_to mul f m) (fun_ext (replaced_map h w.at (p m) p))
        ∙ product_shuffle m (replaced w.at (p m) p) (shuffle_moved p m w.at s w.below w.is) h)
    | inr none ↦ ap₂ mul (ap h (stays p m s none)) (product_shuffle m p (shuffle_last p m s none) h)
  ]

  product_below : (f : ℕ → ℕ) (n : ℕ) → product_to mul f n < 2 ^ k
  unfolding product_to
  product_below f zero = one_below k mul ring
  product_below f (suc n) = ring.closed (f n) (product_to mul f n)

  product_scaled : (a : ℕ) (f : ℕ → ℕ) (n : ℕ) → product_to mul (λ i. mul a (f i)) n ≡ mul (power mul a n) (product_to mul f n)
  unfolding product_to power
  product_scaled a f zero = sym (ring.one 1 (one_below k mul ring))
  product_scaled a f (suc n) =
      ap (mul (mul a (f n))) (product_scaled a f n)
      ∙ ring.assoc a (f n) (mul (power mul a n) (product_to mul f n))
      ∙ ap (mul a) (mul_left_comm k mul ring (f n) (power mul a n) (product_to mul f n))
      ∙ sym (ring.assoc a (power mul a n) (mul (f n) (product_to mul f n)))

  module _ (field : HasNoZeroDivisors k mul) where
    cancel : (a x y : ℕ) → a < 2 ^ k → x < 2 ^ k → y < 2 ^ k → a ≢ 0 → mul a x ≡ mul a y → x ≡ y
    cancel a x y ha hx hy ne e = elim (cases_eq (bit_xor x y) 0) [
      | inl z ↦ xor_same x y z
      | inr n ↦ absurd (field.nonzero a (bit_xor x y) ha (xor_lt k x y hx hy) ne n (ring.distrib a x y ∙ ap (λ z. bit_xor z (mul a y)) e ∙ xor_self (mul a y)))
    ]

    product_nonzero : (f : ℕ → ℕ) (n : ℕ) → ((i : ℕ) → i < n → (f i < 2 ^ k) × (f i ≢ 0)) → product_to mul f n ≢ 0
    unfolding product_to
    product_nonzero f zero h e = absurd (omega arith)
    product_nonzero f (suc n) h e = field.nonzero (f n) (product_to mul f n) (h n (omega arith)).0 (product_below f n) (h n (omega arith)).1 (product_nonzero f n (λ i l. h i (omega arith))) e

    module _ (a : ℕ) (ha : a < 2 ^ k) (ne : a ≢ 0) where
      image : ℕ → ℕ
      image i = mul a (suc i)

      image_nonzero : (i : ℕ) → i < 2 ^ k - 1 → image i ≢ 0
      unfolding image
      image_nonzero i h = field.nonzero a (suc i) ha (omega arith) ne (λ e. absurd (omega arith))

      back : (i : ℕ) → i < 2 ^ k - 1 → suc (pred (image i)) ≡ image i
      back i h = let n : image i ≢ 0 = image_nonzero i h in omega arith

      IsShuffle-image : IsShuffle (λ i. pred (image i)) (2 ^ k - 1)
      unfolding image
      IsShuffle-image = record {
        below = λ i h. let b : image i < 2 ^ k = ring.closed a (suc i) in let n : image i ≢ 0 = image_nonzero i h in omega arith;
        apart = λ i j hi hj e. let same : suc i ≡ suc j = cancel a (suc i) (suc j) ha (omega arith) (omega arith) ne (sym (back i hi) ∙ ap suc e ∙ back j hj) in omega arith;
      }

      all : ℕ
      all = product_to mul suc (2 ^ k - 1)

      product_image : (n : ℕ) → n ≤ 2 ^ k - 1 → product_to mul (λ i. suc (pred (image i))) n ≡ product_to mul image n
      unfolding product_to
      product_image zero h = refl
      product_image (suc n) h = ap₂ mul (back n h) (product_image n (omega arith))

      pub power_all : power mul a (2 ^ k - 1) ≡ 1
      unfolding image all
      power_all = cancel all (power mul a (2 ^ k - 1)) 1 (product_below suc (2 ^ k - 1)) (power_below k mul ring a (2 ^ k - 1)) (one_below k mul ring)
          (product_nonzero suc (2 ^ k - 1) (λ i h. (omega arith, λ e. absurd (omega arith))))
          (ring.comm all (power mul a (2 ^ k - 1)) ∙ sym (product_scaled a suc (2 ^ k - 1)) ∙ sym (product_image (2 ^ k - 1) (omega arith))
          ∙ product_shuffle (2 ^ k - 1) (λ i. pred (image i)) IsShuffle-image suc ∙ sym (mul_one k mul ring all (product_below suc (2 ^ k - 1))))

    pub power_same : (a : ℕ) → a < 2 ^ k → power mul a (2 ^ k) ≡ a
    unfolding power
    power_same a h = ap (power mul a) (positive (2 ^ k) (pow_pos k)) ∙ elim (cases_eq a 0) [
      | inl z ↦ at_zero z
      | inr ne ↦ at_other ne
    ]
      where
        positive : (n : ℕ) → 0 < n → n ≡ suc (n - 1)
        positive n h = omega arith

        at_zero : a ≡ 0 → power mul a (suc (2 ^ k - 1)) ≡ a
        at_zero z = ap (λ x. mul x (power mul a (2 ^ k - 1))) z ∙ zero_mul k mul ring (power mul a (2 ^ k - 1)) ∙ sym z

        at_other : a ≢ 0 → power mul a (suc (2 ^ k - 1)) ≡ a
        at_other ne = ap (mul a) (power_all a h ne) ∙ mul_one k mul ring a h
