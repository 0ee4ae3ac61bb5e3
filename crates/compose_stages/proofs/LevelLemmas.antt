-- Points of a graph that are all grounded have levels.
use Rattle.std.proofs.Common.{◌≡◌, ◌∙◌, ap, sym, refl, inl, inr, ◌⊎◌, ℕ, zero, suc, ◌<◌, ◌≤◌, ◌+◌, max, List, [], ◌∷◌, length, map, Some, arith}
use Rattle.std.specs.Prelude.{slice_get, slice_index}
use Rattle.std.proofs.lemmas.Bool.{cases_lt}
use Rattle.std.proofs.lemmas.Option.{get_or_from_slice_get, slice_get_within}
use Rattle.lists.specs.Lists.{Has}
use Rattle.lists.specs.laws.ListLaws.{length_map as mapped_long}
use Rattle.lists.specs.laws.ReadLaws.{from_map}
use Rattle.graph_core.specs.Cycle.{grounded, IsGrounded}
use Rattle.graph_core.specs.Graph.{edges, Graph, HasEdge, IsInside}
use Rattle.compose_model.specs.Hierarchy.{Hierarchy}
use Rattle.compose_model.specs.Wiring.{feeding_graph, AreAllFeeds, IsWithoutCycle}
use Rattle.compose_model.specs.declared.feeder.Feeder.{Feeder}
use Rattle.compose_polys.specs.LevelOrder.{first_numbers, level_from, level_over, AreLevels}
use Rattle.compose_polys.proofs.LevelLemmas.{number_at, numbers_long, read_number}
use Rattle.compose_stages.proofs.OrderLemmas.{graph_long, rows_inside}

-- more than each of these levels, and at least m
above : (m : ℕ) (bs : List ℕ) → ((c : ℕ) → Has bs c → ℕ) → ℕ
above m [] level = m
above m (b ∷ bs) level = above (max m (level b (zero, refl) + 1)) bs (λ c has. level c (suc has.0, has.1))

above_same : (m : ℕ) (bs : List ℕ) (f g : (c : ℕ) → Has bs c → ℕ) → ((c : ℕ) → (has : Has bs c) → f c has ≡ g c has) → above m bs f ≡ above m bs g
unfolding above
above_same m [] f g same = refl
above_same m (b ∷ bs) f g same =
    ap (λ x. above (max m (x + 1)) bs (λ c has. f c (suc has.0, has.1))) (same b (zero, refl))
    ∙ above_same (max m (g b (zero, refl) + 1)) bs (λ c has. f c (suc has.0, has.1)) (λ c has. g c (suc has.0, has.1)) (λ c has. same c (suc has.0, has.1))

above_levels : (levels : List ℕ) (m : ℕ) (bs : List ℕ) → above m bs (λ c has. slice_index levels c) ≡ level_from levels m bs
unfolding above
above_levels levels m [] = refl
above_levels levels m (b ∷ bs) = above_levels levels (max m (slice_index levels b + 1)) bs

module _ (graph : Graph) where
  level : (i : ℕ) → IsGrounded graph i → ℕ
  level _ (grounded i below) = above 1 (edges graph i) (λ c has. level c (below c has))

  below_of : (i : ℕ) → IsGrounded graph i → (c : ℕ) → HasEdge graph i c → IsGrounded graph c
  below_of _ (grounded i below) = below

  level_is : (i : ℕ) (g : IsGrounded graph i) → level i g ≡ above 1 (edges graph i) (λ c has. level c (below_of i g c has))
  unfolding level below_of
  level_is _ (grounded i below) = refl

  -- however a point is seen to be grounded, it has one level
  level_one : (i : ℕ) (g other : IsGrounded graph i) → level i g ≡ level i other
  unfolding level
  level_one _ (grounded i below) other =
      above_same 1 (edges graph i) (λ c has. level c (below c has)) (λ c has. level c (below_of i other c has)) (λ c has. level_one c (below c has) (below_of i other c has))
      ∙ sym (level_is i other)

  module _ (inside : IsInside graph) (free : (i : ℕ) → i < length graph → IsGrounded graph i) where
    level_if : (i : ℕ) → (i < length graph) ⊎ (length graph ≤ i) → ℕ
    level_if i (inl less) = level i (free i less)
    level_if i (inr past) = 0

    level_of : ℕ → ℕ
    level_of i = level_if i (cases_lt i (length graph))

    if_grounded : (i : ℕ) (r : (i < length graph) ⊎ (length graph ≤ i)) → i < length graph → (g : IsGrounded graph i) → level_if i r ≡ level i g
    unfolding level_if
    if_grounded i (inl less) low g = level_one i (free i less) g
    if_grounded i (inr past) low g = absurd (omega (arith, past, low))

    of_grounded : (i : ℕ) → i < length graph → (g : IsGrounded graph i) → level_of i ≡ level i g
    unfolding level_of
    of_grounded i low g = if_grounded i (cases_lt i (length graph)) low g

    all_levels : List ℕ
    all_levels = map level_of (first_numbers (length graph))

    read_level : (i : ℕ) → i < length graph → slice_index all_levels i ≡ level_of i
    unfolding all_levels
    read_level i less = get_or_from_slice_get (map level_of (first_numbers (length graph))) i (level_of i) 0 (at (first_numbers (length graph)) i i (number_at (length graph) i less))
      where
        at : (xs : List ℕ) (j x : ℕ) → slice_get xs j ≡ Some x → slice_get (map level_of xs) j ≡ Some (level_of x)
        at [] j x got = absurd (cc)
        at (y ∷ xs) zero x got = let same : y ≡ x = cc in ap (λ z. Some (level_of z)) same
        at (y ∷ xs) (suc j) x got = at xs j x got

    level_here : (i : ℕ) → i < length graph → level_of i ≡ level_over all_levels (edges graph i)
    level_here i less =
        let g = free i less in
        of_grounded i less g ∙ level_is i g
        ∙ above_same 1 (edges graph i) (λ c has. level c (below_of i g c has)) (λ c has. slice_index all_levels c)
        (λ c has. let low = inside i c has in sym (read_level c low ∙ of_grounded c low (below_of i g c has)))
        ∙ above_levels all_levels 1 (edges graph i)

    levels_are : AreLevels graph all_levels
    unfolding all_levels
    levels_are = record {
      long = mapped_long level_of (first_numbers (length graph)) ∙ numbers_long (length graph);
      over = λ a l got.
          let from = from_map level_of (first_numbers (length graph)) a l got in
          let same : from.0 ≡ a = read_number (length graph) a from.0 from.1 in
          let less : a < length graph = omega (arith, slice_get_within (first_numbers (length graph)) a from.0 from.1, numbers_long (length graph)) in
          sym from.2 ∙ ap level_of same ∙ level_here a less;
    }

    pub some_levels : (levels : List ℕ) × AreLevels graph levels
    some_levels = (all_levels, levels_are)

-- instances that do not feed each other in a cycle have levels
pub instance_levels : (h : Hierarchy) (rows : List (List Feeder)) → AreAllFeeds h rows → IsWithoutCycle rows → (levels : List ℕ) × AreLevels (feeding_graph rows) levels
instance_levels h rows all free = some_levels (feeding_graph rows) (rows_inside h rows all) (λ i less. free i (omega (arith, less, graph_long rows)))
