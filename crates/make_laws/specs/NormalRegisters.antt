-- Registers that multiply bit by bit in a normal basis. Source: J. L. Massey and J. K. Omura, Computational method and
-- apparatus for finite field arithmetic, US patent 4,587,627 (1986).
use Rattle.std.specs.Prelude.{◌≡◌, ℕ, zero, suc, ◌+◌, ◌-◌, ◌<◌, ◌≤◌, ◌^◌, ◌&&◌, ◌==◌, Bool}
use Rattle.std.specs.Int.{bit_at}
use Rattle.gf_field.specs.Polynomial.{sum_of_first}
use Rattle.gf_field.specs.Trace.{frobenius}
use Rattle.gf_basis.specs.Basis.{AreBits, IsBasis}
use Rattle.gf_basis.specs.BasisFault.{conjugates_of}
use Rattle.make_laws.specs.Chosen.{chosen, sum_of_chosen}

-- bits turned by one place: the last of the k comes first
abbrev pub turned : ℕ → (ℕ → Bool) → ℕ → Bool
turned k a zero = a (k - 1)
turned k a (suc i) = a i

-- the element of k bits in the normal basis of gamma
abbrev pub normal_element : ℕ → (ℕ → ℕ → ℕ) → ℕ → (ℕ → Bool) → ℕ
normal_element k mul gamma a = sum_of_chosen k a (λ i. frobenius mul i gamma)

-- each element has these coordinates in the normal basis of gamma
abbrev pub HasNormalCoordinates : ℕ → (ℕ → ℕ → ℕ) → ℕ → (ℕ → ℕ) → Type 0
HasNormalCoordinates k mul gamma coordinates = (x : ℕ) → x < 2 ^ k → AreBits (conjugates_of k mul gamma) x (coordinates x)

-- the last coordinate of the product of elements i and j of the basis
abbrev pub last_coordinate : ℕ → (ℕ → ℕ → ℕ) → ℕ → (ℕ → ℕ) → ℕ → ℕ → ℕ
last_coordinate k mul gamma coordinates i j = bit_at (coordinates (mul (frobenius mul i gamma) (frobenius mul j gamma))) (k - 1)

-- the sum of the products of bits i and j for which the product of elements i and j has the last coordinate 1
abbrev pub last_coordinate_sum : ℕ → (ℕ → ℕ → ℕ) → ℕ → (ℕ → ℕ) → (ℕ → Bool) → (ℕ → Bool) → ℕ
last_coordinate_sum k mul gamma coordinates a b = sum_of_first k (λ i. sum_of_first k (λ j. chosen (a i && b j) (last_coordinate k mul gamma coordinates i j)))

-- For k cycles: a and b are turned by one place in each; z is moved on by one place, and takes at its first place the sum f.
pub record AreNormalRegisters (k : ℕ) (mul : ℕ → ℕ → ℕ) (gamma : ℕ) (coordinates : ℕ → ℕ) (a b z : ℕ → ℕ → Bool) (f : ℕ → Bool) : Type 0 where
  pub a_turns : (t i : ℕ) → t < k → i < k → a (suc t) i ≡ turned k (a t) i
  pub b_turns : (t i : ℕ) → t < k → i < k → b (suc t) i ≡ turned k (b t) i
  pub z_takes : (t : ℕ) → t < k → z (suc t) 0 ≡ f t
  pub z_moves : (t i : ℕ) → t < k → suc i < k → z (suc t) (suc i) ≡ z t i
  pub f_sums : (t : ℕ) → t < k → chosen (f t) 1 ≡ last_coordinate_sum k mul gamma coordinates (a t) (b t)

-- after k cycles z is the product of what a and b were, whatever z was
abbrev pub HoldNormalProducts : ℕ → (ℕ → ℕ → ℕ) → Type 0
HoldNormalProducts k mul =
    (gamma : ℕ) (coordinates : ℕ → ℕ) (a b z : ℕ → ℕ → Bool) (f : ℕ → Bool)
    → gamma < 2 ^ k → IsBasis k (conjugates_of k mul gamma) → HasNormalCoordinates k mul gamma coordinates
    → AreNormalRegisters k mul gamma coordinates a b z f
    → normal_element k mul gamma (z k) ≡ mul (normal_element k mul gamma (a 0)) (normal_element k mul gamma (b 0))

-- after t cycles the first t places of z are the last t coordinates of the product of what a and b were
abbrev pub HoldNormalPlaces : ℕ → (ℕ → ℕ → ℕ) → Type 0
HoldNormalPlaces k mul =
    (gamma : ℕ) (coordinates : ℕ → ℕ) (a b z : ℕ → ℕ → Bool) (f : ℕ → Bool) (t i : ℕ)
    → gamma < 2 ^ k → IsBasis k (conjugates_of k mul gamma) → HasNormalCoordinates k mul gamma coordinates
    → AreNormalRegisters k mul gamma coordinates a b z f → t ≤ k → i < t
    → z t i ≡ (bit_at (coordinates (mul (normal_element k mul gamma (a 0)) (normal_element k mul gamma (b 0)))) (k - t + i) == 1)
