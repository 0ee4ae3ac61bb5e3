-- Values of polynomials whose coefficients are carried over to another ring.
use Rattle.std.proofs.Common.{◌≡◌, ℕ, zero, suc, refl, sym, ◌∙◌, ap, ap₂, ◌<◌, ◌≤◌, ◌^◌, ◌*◌, ◌%◌, arith, pow_pos, mod-lt}
use Rattle.std.specs.Prelude.{bit_xor}
use Rattle.std.specs.Int.Bits.{xor_self, xor_lt, xor_zero_l, xor_zero_r, xor_assoc}
use native.Mathlib.Nat.{mod-eq_of_lt}
use Rattle.std.proofs.lemmas.Nat.{pow_below}
use Rattle.lists.specs.laws.XorLaws.{xor_cross}
use mathlib.Core.Path.{fun_ext}
use Rattle.gf_field.specs.Ring.{IsRing}
use Rattle.gf_field.specs.Power.{power}
use Rattle.gf_field.specs.Polynomial.{coefficient, IsMonic}
use Rattle.gf_field.specs.Quotient.{none, unit, plus, times, shift, rest, step, reduced, product}
use Rattle.gf_field.specs.laws.RingLaws.{distrib_left, mul_zero, zero_mul, mul_one, mul_left_comm}
use Rattle.gf_field.specs.laws.PackingLaws.{coefficient_one, shorten_xor, coefficient-packed, coefficient_below, coefficient_ends}
use Rattle.gf_field.specs.laws.QuotientLaws.{reduced_below, reduced_ends}
use Rattle.gf_field.specs.laws.QuotientRingLaws.{parts, product_below}
use Rattle.gf_iso.specs.Root.{value_at}

-- f keeps sums, products and 1 of all numbers
pub record IsCarried (mul : ℕ → ℕ → ℕ) (k : ℕ) (big : ℕ → ℕ → ℕ) (f : ℕ → ℕ) : Type 0 where
  pub below : (a : ℕ) → f a < 2 ^ k
  pub sum : (a b : ℕ) → f (bit_xor a b) ≡ bit_xor (f a) (f b)
  pub product : (a b : ℕ) → f (mul a b) ≡ big (f a) (f b)
  pub one : f 1 ≡ 1

pub value_at_below : (k : ℕ) (big : ℕ → ℕ → ℕ) → IsRing k big → (m : ℕ) (f : ℕ → ℕ) (y : ℕ) → value_at big m f y < 2 ^ k
unfolding value_at
value_at_below k big ring zero f y = pow_pos k
value_at_below k big ring (suc m) f y = xor_lt k _ _ (value_at_below k big ring m f y) (ring.closed (f m) (power big y m))

-- the coefficients of a product
pub parts_are : (n e : ℕ) (mul : ℕ → ℕ → ℕ) (g : ℕ) → IsRing n mul → IsMonic n (suc e) g → (u v : ℕ) → parts n (suc e) (product n (suc e) mul g u v) ≡ reduced mul e (coefficient n g) (suc e) (parts n (suc e) u) (parts n (suc e) v)
unfolding product
parts_are n e mul g ring monic u v =
    ap (coefficient n) (mod-eq_of_lt (product_below n e mul g ring monic u v))
    ∙ fun_ext (coefficient-packed n (suc e) (reduced mul e (coefficient n g) (suc e) (parts n (suc e) u) (parts n (suc e) v))
    (reduced_below n mul ring e (coefficient n g) (suc e) (parts n (suc e) u) (parts n (suc e) v) (coefficient_below n (v % 2 ^ (n * suc e))))
    (reduced_ends n mul ring e (coefficient n g) monic.leading monic.last (suc e) (parts n (suc e) u) (parts n (suc e) v) (coefficient_below n (v % 2 ^ (n * suc e))) (coefficient_ends n (suc e) (v % 2 ^ (n * suc e)) (mod-lt v (pow_pos (n * suc e))))))

module _ (mul : ℕ → ℕ → ℕ) (k : ℕ) (big : ℕ → ℕ → ℕ) (ring : IsRing k big) (c : ℕ → ℕ) (carried : IsCarried mul k big c) (y : ℕ) where
  -- the value at y of the first m coefficients, carried over
  abbrev pub val : ℕ → (ℕ → ℕ) → ℕ
  val m f = value_at big m (λ i. c (f i)) y

  pub carried_zero : c 0 ≡ 0
  carried_zero = ap c (sym (xor_self 0)) ∙ carried.sum 0 0 ∙ xor_self (c 0)

  zero_term : (p : ℕ) → big (c 0) p ≡ 0
  zero_term p = ap (λ x. big x p) carried_zero ∙ zero_mul k big ring p

  pub val_none : (m : ℕ) → val m none ≡ 0
  unfolding value_at
  val_none zero = refl
  val_none (suc m) = ap₂ bit_xor (val_none m) (zero_term (power big y m)) ∙ xor_self 0

  pub val_plus : (m : ℕ) (f h : ℕ → ℕ) → val m (plus f h) ≡ bit_xor (val m f) (val m h)
  unfolding value_at
  val_plus zero f h = sym (xor_self 0)
  val_plus (suc m) f h =
      ap₂ bit_xor (val_plus m f h) (ap (λ x. big x (power big y m)) (carried.sum (f m) (h m)) ∙ distrib_left k big ring (c (f m)) (c (h m)) (power big y m))
      ∙ xor_cross (val m f) (val m h) (big (c (f m)) (power big y m)) (big (c (h m)) (power big y m))

  pub val_times : (m a : ℕ) (f : ℕ → ℕ) → val m (times mul a f) ≡ big (c a) (val m f)
  unfolding value_at
  val_times zero a f = sym (mul_zero k big ring (c a))
  val_times (suc m) a f =
      ap₂ bit_xor (val_times m a f) (ap (λ x. big x (power big y m)) (carried.product a (f m)) ∙ ring.assoc (c a) (c (f m)) (power big y m))
      ∙ sym (ring.distrib (c a) (val m f) (big (c (f m)) (power big y m)))

  pub val_shift : (m : ℕ) (f : ℕ → ℕ) → val (suc m) (shift f) ≡ big y (val m f)
  unfolding value_at power
  val_shift zero f = ap (bit_xor 0) (zero_term 1) ∙ xor_self 0 ∙ sym (mul_zero k big ring y)
  val_shift (suc m) f =
      ap₂ bit_xor (val_shift m f) (mul_left_comm k big ring (c (f m)) y (power big y m))
      ∙ sym (ring.distrib y (val m f) (big (c (f m)) (power big y m)))

  -- the first coefficient taken apart
  pub val_open : (m : ℕ) (u : ℕ → ℕ) → val (suc m) u ≡ bit_xor (c (u 0)) (big y (val m (rest u)))
  unfolding value_at power
  val_open zero u = xor_zero_l (big (c (u 0)) 1) ∙ mul_one k big ring (c (u 0)) (carried.below (u 0)) ∙ sym (ap (bit_xor (c (u 0))) (mul_zero k big ring y) ∙ xor_zero_r (c (u 0)))
  val_open (suc m) u =
      ap₂ bit_xor (val_open m u) (mul_left_comm k big ring (c (u (suc m))) y (power big y m))
      ∙ xor_assoc (c (u 0)) (big y (val m (rest u))) (big y (big (c (u (suc m))) (power big y m)))
      ∙ ap (bit_xor (c (u 0))) (sym (ring.distrib y (val m (rest u)) (big (c (u (suc m))) (power big y m))))

  pub val_unit : (e : ℕ) → val (suc e) unit ≡ 1
  val_unit e = val_open e unit ∙ ap₂ bit_xor carried.one (ap (big y) (val_none e) ∙ mul_zero k big ring y) ∙ xor_zero_r 1

  module _ (e : ℕ) (g : ℕ → ℕ) (monic : g (suc e) ≡ 1) where
    drop_pair : (a q b : ℕ) → bit_xor (bit_xor a q) (bit_xor b q) ≡ bit_xor a b
    drop_pair a q b = xor_cross a q b q ∙ ap (bit_xor (bit_xor a b)) (xor_self q) ∙ xor_zero_r (bit_xor a b)

    -- x times f modulo g has the value of the product, up to a multiple of the value of g
    pub val_step : (f : ℕ → ℕ) → val (suc e) (step mul e g f) ≡ bit_xor (big y (val (suc e) f)) (big (c (f e)) (val (suc (suc e)) g))
    unfolding value_at power
    val_step f =
        val_plus (suc e) (shift f) (times mul (f e) g)
        ∙ ap₂ bit_xor (val_shift e f) (val_times (suc e) (f e) g)
        ∙ sym (ap₂ bit_xor
        (ring.distrib y (val e f) (big (c (f e)) (power big y e)))
        (ap (λ x. big (c (f e)) (bit_xor (val (suc e) g) x)) (ap (λ x. big x (big y (power big y e))) (ap c monic ∙ carried.one) ∙ ring.one (big y (power big y e)) (ring.closed y (power big y e)))
        ∙ ring.distrib (c (f e)) (val (suc e) g) (big y (power big y e))
        ∙ ap (bit_xor (big (c (f e)) (val (suc e) g))) (mul_left_comm k big ring (c (f e)) y (power big y e)))
        ∙ drop_pair (big y (val e f)) (big y (big (c (f e)) (power big y e))) (big (c (f e)) (val (suc e) g)))

    module _ (root : val (suc (suc e)) g ≡ 0) where
      pub val_reduced : (m : ℕ) (u f : ℕ → ℕ) → val (suc e) (reduced mul e g m u f) ≡ big (val m u) (val (suc e) f)
      unfolding value_at
      val_reduced zero u f = val_none (suc e) ∙ sym (zero_mul k big ring (val (suc e) f))
      val_reduced (suc m) u f =
          val_plus (suc e) (times mul (u 0) f) (step mul e g (reduced mul e g m (rest u) f))
          ∙ ap₂ bit_xor (val_times (suc e) (u 0) f)
          (val_step (reduced mul e g m (rest u) f)
          ∙ ap₂ bit_xor (ap (big y) (val_reduced m (rest u) f)) (ap (big (c (reduced mul e g m (rest u) f e))) root ∙ mul_zero k big ring (c (reduced mul e g m (rest u) f e)))
          ∙ xor_zero_r (big y (big (val m (rest u)) (val (suc e) f)))
          ∙ sym (ring.assoc y (val m (rest u)) (val (suc e) f)))
          ∙ sym (distrib_left k big ring (c (u 0)) (big y (val m (rest u))) (val (suc e) f))
          ∙ ap (λ x. big x (val (suc e) f)) (sym (val_open m u))

  -- the elements of a quotient go to their values at a root of its modulus
  module _ (n e g : ℕ) (below : IsRing n mul) (monic : IsMonic n (suc e) g) where
    abbrev pub image : ℕ → ℕ
    image u = val (suc e) (parts n (suc e) u)

    pub IsCarried-image : val (suc (suc e)) (coefficient n g) ≡ 0 → IsCarried (product n (suc e) mul g) k big image
    IsCarried-image root = record {
      below = λ a. value_at_below k big ring (suc e) (λ i. c (parts n (suc e) a i)) y;
      sum = λ a b. ap (val (suc e)) (shorten_xor n (suc e) a b) ∙ val_plus (suc e) (parts n (suc e) a) (parts n (suc e) b);
      product = λ a b. ap (val (suc e)) (parts_are n e mul g below monic a b) ∙ val_reduced e (coefficient n g) monic.leading root (suc e) (parts n (suc e) a) (parts n (suc e) b);
      one = ap (val (suc e)) (ap (coefficient n) (mod-eq_of_lt wide) ∙ coefficient_one n below.some) ∙ val_unit e;
    }
      where
        wide : 1 < 2 ^ (n * suc e)
        wide = pow_below 0 (n * suc e) (positive n (suc e) below.some (omega arith))
          where
            positive : (n d : ℕ) → 1 ≤ n → 1 ≤ d → 0 < n * d
            positive n d h l = grind arith
