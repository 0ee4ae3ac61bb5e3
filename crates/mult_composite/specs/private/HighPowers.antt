-- Powers of Y whose coefficients are reduced. Source: this project's own.
use Rattle.std.specs.Prelude.{◌≡◌, ℕ, ◌+◌, ◌-◌, List, [], ◌∷◌}
use Rattle.make_nets.specs.Plan.{gathered}
use Rattle.make_laws.specs.TowerProduct.{Y_to}

-- k powers of Y from the m-th on, in the tower by t, of degree m, over a ring with n bits
abbrev pub powers_from : (n m : ℕ) → (ℕ → ℕ → ℕ) → (t k : ℕ) → List ℕ
powers_from n m mul t k = gathered k (λ i. Y_to n m mul t (m + i) ∷ [])

-- m - 1 of them
abbrev pub AreHighPowers : (n m : ℕ) → (ℕ → ℕ → ℕ) → ℕ → List ℕ → Type 0
AreHighPowers n m mul t powers = powers ≡ powers_from n m mul t (m - 1)
