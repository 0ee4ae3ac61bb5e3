-- Isomorphisms of fields (Lidl and Niederreiter, Finite Fields, chapter 1, section 2, and chapter 2, theorem 2.5).
use Rattle.std.specs.Prelude.{◌≡◌, ℕ, suc, ◌<◌, ◌*◌, ◌^◌, List, length, slice_index, bit_xor}
use Rattle.gf_field.specs.Bit.{bit_mul}
use Rattle.gf_field.specs.Polynomial.{coefficient, IsProductModulo}
use Rattle.gf_tower.specs.FieldName.{tower_product}
use Rattle.gf_tower.specs.Tower.{tower_polynomial}
use Rattle.irreducible.specs.Span.{combination}
use Rattle.gf_iso.specs.Root.{IsLeastRoot}

-- f keeps sums, products and 1; the elements on both sides are the numbers below 2 to the k
pub record IsHomomorphism (k : ℕ) (first second : ℕ → ℕ → ℕ) (f : ℕ → ℕ) : Type 0 where
  pub element : (a : ℕ) → a < 2 ^ k → f a < 2 ^ k
  pub sum : (a b : ℕ) → a < 2 ^ k → b < 2 ^ k → f (bit_xor a b) ≡ bit_xor (f a) (f b)
  pub product : (a b : ℕ) → a < 2 ^ k → b < 2 ^ k → f (first a b) ≡ second (f a) (f b)
  pub one : f 1 ≡ 1

-- a pair of maps that are inverse of each other, both of which keep sums, products and 1
pub record IsIsomorphism (k : ℕ) (first second : ℕ → ℕ → ℕ) (there back : ℕ → ℕ) : Type 0 where
  pub there_keeps : IsHomomorphism k first second there
  pub back_keeps : IsHomomorphism k second first back
  pub undone : (a : ℕ) → a < 2 ^ k → back (there a) ≡ a
  pub redone : (a : ℕ) → a < 2 ^ k → there (back a) ≡ a

-- from the tower with the coefficients cs, over the field of the modulus g of degree n, to the field with this product:
-- the isomorphism in which the base's x, which is the remainder of x by g, goes to the least root of g, and Y to the
-- least root of the tower's polynomial with its coefficients carried over
pub record IsIsoOf (n g : ℕ) (cs : List ℕ) (big : ℕ → ℕ → ℕ) (there back : ℕ → ℕ) : Type 0 where
  pub isomorphism : IsIsomorphism (n * length cs) (tower_product n g cs) big there back
  pub base_root : (x : ℕ) → IsProductModulo 1 n bit_mul g 2 1 x → IsLeastRoot (n * length cs) big (suc n) (coefficient 1 g) (there x)
  pub tower_root : IsLeastRoot (n * length cs) big (suc (length cs)) (λ i. there (coefficient n (tower_polynomial n cs) i)) (there (2 ^ n))

-- two pairs of maps agree on the numbers below 2 to the k
pub record AreSame (k : ℕ) (there back other_there other_back : ℕ → ℕ) : Type 0 where
  pub same_there : (a : ℕ) → a < 2 ^ k → there a ≡ other_there a
  pub same_back : (a : ℕ) → a < 2 ^ k → back a ≡ other_back a

-- there is at most one such isomorphism
abbrev pub HasOnlyIso : (n g : ℕ) → List ℕ → (ℕ → ℕ → ℕ) → Type 0
HasOnlyIso n g cs big =
    (there back other_there other_back : ℕ → ℕ)
    → IsIsoOf n g cs big there back → IsIsoOf n g cs big other_there other_back
    → AreSame (n * length cs) there back other_there other_back

-- where the images of 1, 2, 4, .. are the elements of a list basis, bits have in it the image of the element that they
-- have in the tower
abbrev pub HasSameWord : (n g : ℕ) → List ℕ → (ℕ → ℕ → ℕ) → Type 0
HasSameWord n g cs big =
    (there back : ℕ → ℕ) (basis : List ℕ) (bits : ℕ)
    → IsIsoOf n g cs big there back
    → length basis ≡ n * length cs
    → ((i : ℕ) → i < length basis → slice_index basis i ≡ there (2 ^ i))
    → bits < 2 ^ length basis
    → combination basis bits ≡ there bits
