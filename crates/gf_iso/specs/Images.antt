-- What an isomorphism makes of bases over the field of 0 and 1: the images of a basis are a basis, and the image of an
-- element has over them the bits that the element has over the basis.
-- Source: an isomorphism is a linear map that is one to one, as in any book on linear algebra.
use Rattle.std.specs.Prelude.{ℕ, ◌<◌, ◌*◌, ◌^◌, ◌↔◌, List, length, map}
use Rattle.gf_basis.specs.Basis.{AreBits, IsBasis, IsBasisList, first_values}
use Rattle.gf_iso.specs.Isomorphism.{IsIsoOf}

-- the map takes each basis to a basis, and each element to the one that has over it the same bits
pub record KeepsBases (k : ℕ) (there : ℕ → ℕ) : Type 0 where
  pub basis : (elements : List ℕ) → IsBasis k elements → IsBasis k (map there elements)
  pub same_bits : (elements : List ℕ) (x bits : ℕ) → IsBasis k elements → x < 2 ^ k → AreBits elements x bits ↔ AreBits (map there elements) (there x) bits

-- the images of 1, 2, 4, ..
abbrev pub images_of : (k : ℕ) → (ℕ → ℕ) → List ℕ
images_of k there = first_values k (λ i. there (2 ^ i))

-- these are k independent elements, and the image of an element has over them the bits of the element's number
pub record HasImages (k : ℕ) (there : ℕ → ℕ) : Type 0 where
  pub list : IsBasisList k (images_of k there)
  pub bits : (x : ℕ) → x < 2 ^ k → AreBits (images_of k there) (there x) x

-- an isomorphism to the field with this product keeps bases
abbrev pub HasKeptBases : (n g : ℕ) → List ℕ → (ℕ → ℕ → ℕ) → Type 0
HasKeptBases n g cs big = (there back : ℕ → ℕ) → IsIsoOf n g cs big there back → KeepsBases (n * length cs) there

-- its images of 1, 2, 4, .. are a basis
abbrev pub HasBasisOfImages : (n g : ℕ) → List ℕ → (ℕ → ℕ → ℕ) → Type 0
HasBasisOfImages n g cs big = (there back : ℕ → ℕ) → IsIsoOf n g cs big there back → HasImages (n * length cs) there
