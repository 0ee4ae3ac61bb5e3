-- Small worked examples of the definitions of specs/, which the check computes: a graph of five points, in which 0 leads
-- to 1, 1 to 2 and 2 nowhere, and 3 and 4 lead to each other.
use Rattle.std.proofs.Common.{◌≡◌, ℕ, zero, suc, ◌<◌, ◌+◌, [], ◌∷◌, Option, Some, slice_get, sym, subst, refl, arith, inl, inr}
use Rattle.lists.specs.Lists.{Has}
use Rattle.graph_core.specs.Graph.{Graph, HasEdge, edges, IsPath, IsReached, IsCycle}
use Rattle.graph_core.specs.Cycle.{IsGrounded, grounded, IsEndless, IsFirstEndless, IsCycleOf}
use Rattle.graph_core.proofs.GroundLemmas.{grounded_no_cycle}
use Rattle.graph_core.specs.Arranged.{IsArranged}

abbrev five : Graph
five = (1 ∷ []) ∷ (2 ∷ []) ∷ [] ∷ (4 ∷ []) ∷ (3 ∷ []) ∷ []

-- the edges of 0 lead to 1
edges_of_zero : edges five 0 ≡ 1 ∷ []
edges_of_zero = refl

-- from 0 a path leads over 1 to 2
path_to_two : IsPath five 0 (1 ∷ []) 2
path_to_two = ((0, refl), (0, refl))

-- 3 and 4 are a cycle
cycle_of_two : IsCycle five (3 ∷ 4 ∷ [])
cycle_of_two = ((0, refl), (0, refl))

-- from the root 0 the order is 2, 1, 0: each point after that to which it leads
order_from_zero : IsArranged five (0 ∷ []) (2 ∷ 1 ∷ 0 ∷ [])
order_from_zero = record { has_roots = has_roots; only = only_reached; inside = inside; once = once; after = after }
  where
    has_roots : (a : ℕ) → Has (0 ∷ []) a → Has (2 ∷ 1 ∷ 0 ∷ []) a
    has_roots a (zero, got) = (2, got)
    has_roots a (suc k, got) = absurd (cc)

    only_reached : (a : ℕ) → Has (2 ∷ 1 ∷ 0 ∷ []) a → IsReached five (0 ∷ []) a
    only_reached a (zero, got) = let same : 2 ≡ a = cc in rw (← same) (inr (0, 1 ∷ [], (0, refl), path_to_two))
    only_reached a (suc zero, got) = let same : 1 ≡ a = cc in rw (← same) (inr (0, [], (0, refl), (0, refl)))
    only_reached a (suc (suc zero), got) = let same : 0 ≡ a = cc in rw (← same) (inl (0, refl))
    only_reached a (suc (suc (suc k)), got) = absurd (cc)

    inside : (a : ℕ) → Has (2 ∷ 1 ∷ 0 ∷ []) a → a < 5
    inside a (zero, got) = let same : 2 ≡ a = cc in omega arith
    inside a (suc zero, got) = let same : 1 ≡ a = cc in omega arith
    inside a (suc (suc zero), got) = let same : 0 ≡ a = cc in omega arith
    inside a (suc (suc (suc k)), got) = absurd (cc)

    place : (i a : ℕ) → slice_get (2 ∷ 1 ∷ 0 ∷ []) i ≡ Some a → i + a ≡ 2
    place zero a got = let same : 2 ≡ a = cc in omega arith
    place (suc zero) a got = let same : 1 ≡ a = cc in omega arith
    place (suc (suc zero)) a got = let same : 0 ≡ a = cc in omega arith
    place (suc (suc (suc i))) a got = absurd (cc)

    once : (i j a : ℕ) → slice_get (2 ∷ 1 ∷ 0 ∷ []) i ≡ Some a → slice_get (2 ∷ 1 ∷ 0 ∷ []) j ≡ Some a → i ≡ j
    once i j a first second = omega (arith, place i a first, place j a second)

    after : (i a b : ℕ) → slice_get (2 ∷ 1 ∷ 0 ∷ []) i ≡ Some a → HasEdge five a b → (j : ℕ) × (j < i) × (slice_get (2 ∷ 1 ∷ 0 ∷ []) j ≡ Some b)
    after zero a b got edge = let same : 2 ≡ a = cc in let P : ℕ → Type 0 = λ c. HasEdge five c b in absurd (nowhere b (subst P (sym same) edge))
      where
        nowhere : (b : ℕ) → HasEdge five 2 b → ⊥
        nowhere b (k, got) = absurd (cc)
    after (suc zero) a b got edge = let same : 1 ≡ a = cc in let P : ℕ → Type 0 = λ c. HasEdge five c b in (0, omega arith, only b (subst P (sym same) edge))
      where
        only : (b : ℕ) → HasEdge five 1 b → ◌≡◌ {A = Option ℕ} (Some 2) (Some b)
        only b (zero, got) = got
        only b (suc k, got) = absurd (cc)
    after (suc (suc zero)) a b got edge = let same : 0 ≡ a = cc in let P : ℕ → Type 0 = λ c. HasEdge five c b in (1, omega arith, only b (subst P (sym same) edge))
      where
        only : (b : ℕ) → HasEdge five 0 b → ◌≡◌ {A = Option ℕ} (Some 1) (Some b)
        only b (zero, got) = got
        only b (suc k, got) = absurd (cc)
    after (suc (suc (suc i))) a b got edge = absurd (cc)

-- 2 is grounded, for it leads nowhere
two_is_grounded : IsGrounded five 2
two_is_grounded = grounded 2 step
  where
    step : (b : ℕ) → HasEdge five 2 b → IsGrounded five b
    step b (k, got) = absurd (cc)

-- so 1 is, which leads to 2 alone
one_is_grounded : IsGrounded five 1
one_is_grounded = grounded 1 step
  where
    step : (b : ℕ) → HasEdge five 1 b → IsGrounded five b
    step b (zero, got) = let same : 2 ≡ b = cc in rw (← same) two_is_grounded
    step b (suc k, got) = absurd (cc)

-- 0 leads to 1 alone, and is grounded too
zero_is_grounded : IsGrounded five 0
zero_is_grounded = grounded 0 step
  where
    step : (b : ℕ) → HasEdge five 0 b → IsGrounded five b
    step b (zero, got) = let same : 1 ≡ b = cc in rw (← same) one_is_grounded
    step b (suc k, got) = absurd (cc)

-- 3 leads into the cycle of 3 and 4, so it is endless
three_is_endless : IsEndless five 3
three_is_endless ground = grounded_no_cycle five 3 ground (4 ∷ []) ((0, refl), (0, refl))

-- and so is 4
four_is_endless : IsEndless five 4
four_is_endless ground = grounded_no_cycle five 4 ground (3 ∷ []) ((0, refl), (0, refl))

-- of the roots 0 and 3 the walk begins at 3, and goes to 4 and back: it finds the cycle of 3 and 4
cycle_of_roots : IsCycleOf five (0 ∷ 3 ∷ []) (3 ∷ 4 ∷ [])
cycle_of_roots = record {
  walk = 3 ∷ 4 ∷ [];
  from = 0;
  is_walk = record { begins = begins; leads = leads; apart = apart };
  within = omega arith;
  back = back;
  loop_is = refl;
}
  where
    begins : (a : ℕ) → slice_get (3 ∷ 4 ∷ []) 0 ≡ Some a → IsFirstEndless five (0 ∷ 3 ∷ []) a
    begins a got = let same : 3 ≡ a = cc in rw (← same) (1, refl, three_is_endless, before)
      where
        before : (j c : ℕ) → j < 1 → slice_get (0 ∷ 3 ∷ []) j ≡ Some c → IsGrounded five c
        before zero c less at = let same : 0 ≡ c = cc in rw (← same) zero_is_grounded
        before (suc j) c less at = absurd (omega arith)

    leads : (k a b : ℕ) → slice_get (3 ∷ 4 ∷ []) k ≡ Some a → slice_get (3 ∷ 4 ∷ []) (k + 1) ≡ Some b → IsFirstEndless five (edges five a) b
    leads zero a b got after = let here : 3 ≡ a = cc in let there : 4 ≡ b = cc in rw (← here, ← there) (0, refl, four_is_endless, λ j c less at. absurd (omega arith))
    leads (suc zero) a b got after = absurd (cc)
    leads (suc (suc k)) a b got after = absurd (cc)

    apart : (i j a : ℕ) → slice_get (3 ∷ 4 ∷ []) i ≡ Some a → slice_get (3 ∷ 4 ∷ []) j ≡ Some a → i ≡ j
    apart i j a first second = omega (arith, place i a first, place j a second)
      where
        place : (i a : ℕ) → slice_get (3 ∷ 4 ∷ []) i ≡ Some a → i + 3 ≡ a
        place zero a got = let same : 3 ≡ a = cc in omega arith
        place (suc zero) a got = let same : 4 ≡ a = cc in omega arith
        place (suc (suc i)) a got = absurd (cc)

    back : (k a b : ℕ) → k + 1 ≡ 2 → slice_get (3 ∷ 4 ∷ []) k ≡ Some a → slice_get (3 ∷ 4 ∷ []) 0 ≡ Some b → IsFirstEndless five (edges five a) b
    back zero a b last got first = absurd (omega (arith, last))
    back (suc zero) a b last got first = let here : 4 ≡ a = cc in let there : 3 ≡ b = cc in rw (← here, ← there) (0, refl, three_is_endless, λ j c less at. absurd (omega arith))
    back (suc (suc k)) a b last got first = absurd (cc)
