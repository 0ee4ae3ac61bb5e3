-- A tower's polynomial is monic, and its quotient is a ring, and a field exactly where it is irreducible.
use Rattle.std.proofs.Common.{◌≡◌, ℕ, suc, sym, ◌∙◌, ap, ap₂, ◌<◌, ◌≤◌, ◌^◌, ◌+◌, ◌*◌, ◌↔◌, arith, pow_pos, mul-suc, mul-zero, pow-add, subst, List, [], ◌∷◌, length}
use Rattle.std.proofs.Math.Arith.{digits_lt}
use Rattle.gf_field.specs.Ring.{IsRing}
use Rattle.gf_field.specs.Field.{HasNoZeroDivisors}
use Rattle.gf_field.specs.Element.{AreElements}
use Rattle.gf_field.specs.Polynomial.{IsMonic, IsIrreducible, IsProductModulo}
use Rattle.gf_field.specs.Quotient.{product}
use Rattle.gf_field.specs.laws.ProductLaws.{HasOnlyProduct-from_ring}
use Rattle.gf_field.specs.laws.QuotientRingLaws.{IsRing-product}
use Rattle.gf_field.specs.laws.IrreducibleLaws.{HasQuotientFields-from_field}
use Rattle.gf_tower.specs.Tower.{polynomial_of, tower_polynomial}
use Rattle.gf_tower.specs.Digits.{IsPackedList}
use Rattle.gf_tower.specs.private.DigitSteps.{IsPacked, modulus_of}
use Rattle.gf_tower.specs.laws.DigitsLaws.{IsMonic-packed}

pub polynomial_below : (n : ℕ) (cs : List ℕ) → AreElements n cs → polynomial_of n cs < 2 ^ (n * length cs)
polynomial_below n [] h = pow_pos (n * 0)
polynomial_below n (c ∷ cs) h = rw (mul-suc n (length cs), pow-add 2 (n * length cs) n) (digits_lt (polynomial_below n cs (λ i l. h (suc i) (omega arith))) (h 0 (omega arith)))

-- a leading coefficient of 1
polynomial_last : (n : ℕ) (cs : List ℕ) → tower_polynomial n cs ≡ 1 * 2 ^ (n * length cs) + polynomial_of n cs
polynomial_last n [] = rw (mul-zero n) (at (2 ^ n))
  where
    at : (p : ℕ) → 0 * p + 1 ≡ 1 * 1 + 0
    at p = omega arith
polynomial_last n (c ∷ cs) =
    ap (λ x. x * 2 ^ n + c) (polynomial_last n cs) ∙ moved (2 ^ (n * length cs)) (2 ^ n) (polynomial_of n cs) c (ap (λ x. 2 ^ x) (mul-suc n (length cs)) ∙ pow-add 2 (n * length cs) n)
  where
    moved : (p q x c : ℕ) {r : ℕ} → r ≡ p * q → (1 * p + x) * q + c ≡ 1 * r + (x * q + c)
    moved p q x c {r} e = rw e (grown p q x c)
      where
        grown : (p q x c : ℕ) → (1 * p + x) * q + c ≡ 1 * (p * q) + (x * q + c)
        grown p q x c = omega arith

module _ (n m low : ℕ) (cs : List ℕ) (ok : IsPackedList n m low cs) where
  pub IsPacked-list : IsPacked n m low
  IsPacked-list = record {
    two = ok.two;
    small = ok.small;
    below = rw (ok.packs, sym ok.size) (polynomial_below n cs ok.elements);
  }

  pub modulus_is : modulus_of n m low ≡ tower_polynomial n cs
  modulus_is = ap₂ (λ k x. 1 * 2 ^ (n * k) + x) (sym ok.size) ok.packs ∙ sym (polynomial_last n cs)

  module _ (mul : ℕ → ℕ → ℕ) (ring : IsRing n mul) where
    pub IsMonic-tower : IsMonic n m (tower_polynomial n cs)
    IsMonic-tower = subst (IsMonic n m) modulus_is (IsMonic-packed n m mul low ring IsPacked-list)

    pub IsRing-tower : IsRing (n * m) (product n m mul (tower_polynomial n cs))
    IsRing-tower = IsRing-product n m mul (tower_polynomial n cs) ring IsMonic-tower (let two : 2 ≤ m = ok.two in omega arith) ok.small

    pub field_by_polynomial : HasNoZeroDivisors n mul → HasNoZeroDivisors (n * m) (product n m mul (tower_polynomial n cs)) ↔ IsIrreducible n mul (tower_polynomial n cs)
    field_by_polynomial field = HasQuotientFields-from_field n mul ring field m (tower_polynomial n cs) (let two : 2 ≤ m = ok.two in omega arith) IsMonic-tower

    -- the product is the one remainder
    pub remainder_is : (a b s : ℕ) → a < 2 ^ (n * m) → b < 2 ^ (n * m) → s ≡ product n m mul (tower_polynomial n cs) a b → IsProductModulo n m mul (tower_polynomial n cs) a b s
    remainder_is a b s ha hb is = (HasOnlyProduct-from_ring n mul ring m (tower_polynomial n cs) a b s (let two : 2 ≤ m = ok.two in omega arith) IsMonic-tower ha hb).1 is
