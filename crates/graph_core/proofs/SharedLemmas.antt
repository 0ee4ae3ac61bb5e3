-- Lemmas that several crates above cite.
use Rattle.std.proofs.Common.{ℕ, ◌<◌, List, [], ◌∷◌, arith}
use Rattle.graph_core.specs.Walk.{IsChain, IsCycleBy}

pub chain_falls : (R : ℕ → ℕ → Type 0) (f : ℕ → ℕ) → ((a b : ℕ) → R a b → f b < f a) → (a : ℕ) (over : List ℕ) (b : ℕ) → IsChain R a over b → f b < f a
chain_falls R f each a [] b chain = each a b chain
chain_falls R f each a (m ∷ over) b chain = omega (arith, each a m chain.0, chain_falls R f each m over b chain.1)

pub no_cycle_by : (R : ℕ → ℕ → Type 0) (f : ℕ → ℕ) → ((a b : ℕ) → R a b → f b < f a) → (cycle : List ℕ) → IsCycleBy R cycle → ⊥
no_cycle_by R f each [] cycle = cycle
no_cycle_by R f each (a ∷ rest) cycle = omega (arith, chain_falls R f each a rest a cycle)
