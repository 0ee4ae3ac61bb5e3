-- Values and roots of polynomials in one word (Lidl and Niederreiter, Finite Fields, chapter 1, theorem 1.66).
-- Here a polynomial is the list of its coefficients, the coefficient of the power 0 first.
use Rattle.std.specs.Prelude.{◌≡◌, ◌≢◌, ℕ, ◌<◌, ◌≤◌, ◌^◌, List, [], ◌∷◌, ◌++◌, length, bit_xor}
use Rattle.std.specs.List.{AllByRecursion}
use Rattle.gf_field.specs.Power.{power}

-- the value at x
abbrev pub value : (ℕ → ℕ → ℕ) → List ℕ → ℕ → ℕ
value mul [] x = 0
value mul (c ∷ cs) x = bit_xor c (mul x (value mul cs x))

-- each coefficient is an element
abbrev pub AllElements : ℕ → List ℕ → Type 0
AllElements k cs = AllByRecursion (λ c. c < 2 ^ k) cs

-- each coefficient is 0
abbrev pub AllZero : List ℕ → Type 0
AllZero cs = AllByRecursion (λ c. c ≡ 0) cs

-- different elements, each a root
abbrev pub AreRoots : (ℕ → ℕ → ℕ) → ℕ → List ℕ → List ℕ → Type 0
AreRoots mul k cs [] = Unit {0}
AreRoots mul k cs (x ∷ xs) = (x < 2 ^ k) × (value mul cs x ≡ 0) × AllByRecursion (λ y. x ≢ y) xs × AreRoots mul k cs xs

-- a polynomial of degree d has at most d roots
abbrev pub HasRootsUpToDegree : ℕ → (ℕ → ℕ → ℕ) → Type 0
HasRootsUpToDegree k mul =
    (cs : List ℕ) (leading : ℕ) (roots : List ℕ)
    → AllElements k (cs ++ leading ∷ []) → leading ≢ 0
    → AreRoots mul k (cs ++ leading ∷ []) roots
    → length roots ≤ length cs

-- with at most 2 to the k coefficients, 0 at each element only where each coefficient is 0
pub record HasFewRoots (k : ℕ) (mul : ℕ → ℕ → ℕ) : Type 0 where
  pub zeros : (cs : List ℕ) → length cs ≤ 2 ^ k → AllElements k cs → ((x : ℕ) → x < 2 ^ k → value mul cs x ≡ 0) → AllZero cs

-- each element is its own power by the number of elements (chapter 2, lemma 2.3)
abbrev pub IsOwnPower : ℕ → (ℕ → ℕ → ℕ) → Type 0
IsOwnPower k mul = (a : ℕ) → a < 2 ^ k → power mul a (2 ^ k) ≡ a
