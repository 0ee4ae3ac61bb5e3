-- Why a list is no basis of the field of 2 to the k elements, each fault after those before it.
-- Source: this project's own.
use Rattle.std.specs.Prelude.{◌≡◌, ◌≢◌, ℕ, ◌<◌, ◌≤◌, ◌^◌, ◌-◌, min, List, length}
use Rattle.gf_field.specs.Element.{AreElements, IsFirstOutside}
use Rattle.gf_field.specs.Trace.{frobenius}
use Rattle.irreducible.specs.Span.{IsIndependent}
use Rattle.gf_basis.specs.Basis.{first_values}
use Rattle.gf_basis.specs.declared.bases.BasisFault.{BasisFault}
use Rattle.gf_basis.specs.declared.bases.BasisFault.TheVariants.{WrongCount, BadElement, Dependent}

-- not k numbers, of which there are `count` (2 to the 32 less 1 stands for any larger number); the first that is no
-- element; or dependent elements
abbrev pub IsListFault : ℕ → List ℕ → BasisFault → Type 0
IsListFault k list (WrongCount count) = (length list ≢ k) × (count ≡ min (length list) (2 ^ 32 - 1))
IsListFault k list (BadElement place) = (length list ≡ k) × IsFirstOutside k list place
IsListFault k list Dependent = (length list ≡ k) × AreElements k list × ¬ IsIndependent list

-- the conjugates of gamma: gamma squared 0 to k - 1 times
abbrev pub conjugates_of : ℕ → (ℕ → ℕ → ℕ) → ℕ → List ℕ
conjugates_of k mul gamma = first_values k (λ i. frobenius mul i gamma)

-- gamma is no element; or its conjugates are dependent
abbrev pub IsNormalFault : ℕ → (ℕ → ℕ → ℕ) → ℕ → BasisFault → Type 0
IsNormalFault k mul gamma (WrongCount count) = ⊥
IsNormalFault k mul gamma (BadElement place) = (place ≡ 0) × (2 ^ k ≤ gamma)
IsNormalFault k mul gamma Dependent = (gamma < 2 ^ k) × ¬ IsIndependent (conjugates_of k mul gamma)

-- a list has at most one fault
abbrev pub HasOneListFault : ℕ → Type 0
HasOneListFault k = (list : List ℕ) (f h : BasisFault) → IsListFault k list f → IsListFault k list h → f ≡ h

-- of an element that has no normal basis there is at most one fault
abbrev pub HasOneNormalFault : ℕ → (ℕ → ℕ → ℕ) → Type 0
HasOneNormalFault k mul = (gamma : ℕ) (f h : BasisFault) → IsNormalFault k mul gamma f → IsNormalFault k mul gamma h → f ≡ h
