-- Chains, cycles, and walks that go on until they meet a point again. Source: this project's own.
use Rattle.std.specs.Prelude.{◌≡◌, ℕ, ◌<◌, ◌+◌, List, [], ◌∷◌, length, Some, slice_get, drop}

-- from a over these points to b, each in the relation to the next
abbrev pub IsChain : (ℕ → ℕ → Type 0) → ℕ → List ℕ → ℕ → Type 0
IsChain R a [] b = R a b
IsChain R a (c ∷ cs) b = R a c × IsChain R c cs b

-- one or more points, each in the relation to the next, and the last to the first
abbrev pub IsCycleBy : (ℕ → ℕ → Type 0) → List ℕ → Type 0
IsCycleBy R [] = ⊥
IsCycleBy R (a ∷ rest) = IsChain R a rest a

-- A walk over different points, from where walks begin, from each point to that to which it leads.
pub record IsWalkBy (Begins : ℕ → Type 0) (Leads : ℕ → ℕ → Type 0) (walk : List ℕ) : Type 0 where
  pub begins : (a : ℕ) → slice_get walk 0 ≡ Some a → Begins a
  pub leads : (k a b : ℕ) → slice_get walk k ≡ Some a → slice_get walk (k + 1) ≡ Some b → Leads a b
  pub apart : (i j a : ℕ) → slice_get walk i ≡ Some a → slice_get walk j ≡ Some a → i ≡ j

-- The walk's last point leads to one that the walk met before; the loop is the walk from there on.
pub record IsLoopBy (Begins : ℕ → Type 0) (Leads : ℕ → ℕ → Type 0) (loop : List ℕ) : Type 0 where
  pub walk : List ℕ
  pub from : ℕ
  pub is_walk : IsWalkBy Begins Leads walk
  pub within : from < length walk
  pub back : (k a b : ℕ) → k + 1 ≡ length walk → slice_get walk k ≡ Some a → slice_get walk from ≡ Some b → Leads a b
  pub loop_is : loop ≡ drop from walk
