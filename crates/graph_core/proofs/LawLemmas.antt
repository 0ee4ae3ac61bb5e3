-- Laws of orders and cycles.
use Rattle.std.proofs.Common.{◌≡◌, inl, inr, ℕ, zero, suc, ◌<◌, List, ◌∷◌, Some, arith}
use Rattle.std.specs.Prelude.{slice_get}
use Rattle.lists.specs.Lists.{Has}
use Rattle.lists.specs.laws.NumberLaws.{nat_eq_or, even}
use Rattle.lists.specs.laws.ReadLaws.{get_below}
use Rattle.graph_core.specs.Graph.{Graph, edges, HasEdge, IsPath, IsCycle}
use Rattle.graph_core.specs.Cycle.{IsGrounded, grounded, IsFirstEndless, IsCycleOf}
use Rattle.graph_core.specs.Arranged.{IsArranged}
use Rattle.graph_core.proofs.GroundLemmas.{grounded_path, grounded_no_cycle}
use Rattle.graph_core.proofs.LoopLemmas.{loop_cycle, cycle_weaker, loop_only}

-- the first endless point is the only first one
pub first_only : (graph : Graph) (list : List ℕ) (b c : ℕ) → IsFirstEndless graph list b → IsFirstEndless graph list c → b ≡ c
first_only graph list b c (i, at, endless, before) (j, at', endless', before') =
    elim (nat_eq_or i j) [
      | inl same ↦ let at'' : slice_get list j ≡ Some b = rw (← same) at in cc
      | inr other ↦ absurd (other (even i j (λ less. endless (before' i b less at)) (λ less. endless' (before j c less at'))))
    ]

pub is_cycle : (graph : Graph) (roots cycle : List ℕ) → IsCycleOf graph roots cycle → IsCycle graph cycle
is_cycle graph roots cycle is =
    let L : ℕ → ℕ → Type 0 = λ a b. IsFirstEndless graph (edges graph a) b in
    cycle_weaker L (HasEdge graph) (λ a b first. (first.0, first.1)) cycle (loop_cycle (IsFirstEndless graph roots) L cycle is)

pub is_only : (graph : Graph) (roots x y : List ℕ) → IsCycleOf graph roots x → IsCycleOf graph roots y → x ≡ y
is_only graph roots x y one two =
    let L : ℕ → ℕ → Type 0 = λ a b. IsFirstEndless graph (edges graph a) b in
    loop_only (IsFirstEndless graph roots) L (first_only graph roots) (λ a b c. first_only graph (edges graph a) b c) x y one two

below_grounded : (graph : Graph) (roots order : List ℕ) → IsArranged graph roots order → (bound i a : ℕ) → i < bound → slice_get order i ≡ Some a → IsGrounded graph a
below_grounded graph roots order is zero i a less at = absurd (omega arith)
below_grounded graph roots order is (suc bound) i a less at =
    grounded a (λ b edge. let low = is.after i a b at edge in below_grounded graph roots order is bound low.0 b (omega (arith, low.1)) low.2)

-- the points of an order are grounded
pub arranged_grounded : (graph : Graph) (roots order : List ℕ) (a : ℕ) → IsArranged graph roots order → Has order a → IsGrounded graph a
arranged_grounded graph roots order a is has = below_grounded graph roots order is (suc has.0) has.0 a (omega arith) has.1

pub leads_to_no_cycle : (graph : Graph) (a b : ℕ) (rest around : List ℕ) → IsGrounded graph a → IsPath graph a rest b → IsCycle graph (b ∷ around) → ⊥
leads_to_no_cycle graph a b rest around ground path cycle = grounded_no_cycle graph b (grounded_path graph a rest b ground path) around cycle

pub not_both : (graph : Graph) (roots order cycle : List ℕ) → IsArranged graph roots order → IsCycleOf graph roots cycle → ⊥
not_both graph roots order cycle is loop =
    let first = get_below loop.walk 0 (omega (arith, loop.within)) in
    let begin = loop.is_walk.begins first.0 first.1 in
    begin.2 (arranged_grounded graph roots order first.0 is (is.has_roots first.0 (begin.0, begin.1)))
