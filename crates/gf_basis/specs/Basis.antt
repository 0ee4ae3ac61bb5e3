-- Bases of a field of 2 to the k elements over the field of 0 and 1 (Lidl and Niederreiter, Finite Fields, chapter 2).
use Rattle.std.specs.Prelude.{◌≡◌, ℕ, zero, suc, ◌<◌, ◌^◌, ◌↔◌, List, [], ◌∷◌, length}
use Rattle.gf_field.specs.Element.{AreElements}
use Rattle.irreducible.specs.Span.{combination, IsIndependent}

-- bit i of `bits` says whether element i is chosen, and x is the sum of the chosen elements
pub record AreBits (elements : List ℕ) (x bits : ℕ) : Type 0 where
  pub short : bits < 2 ^ length elements
  pub is : combination elements bits ≡ x

-- x is the sum of exactly one choice of the elements
pub record HasOnlyBits (elements : List ℕ) (x : ℕ) : Type 0 where
  pub choice : ℕ
  pub chosen : AreBits elements x choice
  pub only : (bits : ℕ) → AreBits elements x bits → bits ≡ choice

-- k elements of the field, and each element of the field is the sum of exactly one choice of them
pub record IsBasis (k : ℕ) (elements : List ℕ) : Type 0 where
  pub size : length elements ≡ k
  pub inside : AreElements k elements
  pub sums : (x : ℕ) → x < 2 ^ k → HasOnlyBits elements x

-- what a basis can be made of: k independent elements
pub record IsBasisList (k : ℕ) (list : List ℕ) : Type 0 where
  pub size : length list ≡ k
  pub inside : AreElements k list
  pub free : IsIndependent list

-- the list f 0, f 1, .., of k values
abbrev pub first_values : ℕ → (ℕ → ℕ) → List ℕ
first_values zero f = []
first_values (suc k) f = f 0 ∷ first_values k (λ i. f (suc i))

-- the bases are the lists of k independent elements
abbrev pub AreIndependentLists : ℕ → Type 0
AreIndependentLists k = (list : List ℕ) → IsBasis k list ↔ IsBasisList k list
