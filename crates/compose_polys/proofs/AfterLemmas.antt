-- What the walk's order says of all points, and what the order by level says of edges.
use Rattle.std.proofs.Common.{◌≡◌, ◌∙◌, ap, subst, inl, inr, ℕ, zero, suc, ◌<◌, ◌≤◌, ◌+◌, ◌-◌, max, List, [], ◌∷◌, length, Some, arith}
use Rattle.std.specs.Prelude.{slice_get, slice_index}
use Rattle.std.proofs.lemmas.Bool.{cases_order}
use Rattle.std.proofs.lemmas.Option.{get_or_from_slice_get, slice_get_within}
use Rattle.lists.specs.Lists.{Has}
use Rattle.lists.specs.laws.ReadLaws.{get_below}
use Rattle.graph_core.specs.Arranged.{IsArranged}
use Rattle.graph_core.specs.Graph.{edges, Graph, HasEdge, IsInside}
use Rattle.net_core.specs.Order.{IsBefore}
use Rattle.compose_polys.specs.LevelOrder.{first_numbers, level_from, level_over, IsLevelOrder, IsOrderBy}
use Rattle.compose_polys.proofs.LevelLemmas.{number_at, numbers_long, read_number}

-- where all points are roots, all stand in the order
pub all_stand : (graph : Graph) (order : List ℕ) → IsArranged graph (first_numbers (length graph)) order → (a : ℕ) → a < length graph → Has order a
all_stand graph order arranged a less = arranged.has_roots a (a, number_at (length graph) a less)

-- ---- the order by level

pub next_before : (l p m q n r : ℕ) → IsBefore l p m q → IsBefore m q n r → IsBefore l p n r
next_before l p m q n r (inl a) (inl b) = inl (omega (arith, a, b))
next_before l p m q n r (inl a) (inr b) = inl (omega (arith, a, b.0))
next_before l p m q n r (inr a) (inl b) = inl (omega (arith, a.0, b))
next_before l p m q n r (inr a) (inr b) = inr (a.0 ∙ b.0, omega (arith, a.1, b.1))

not_before : (l p m q : ℕ) → IsBefore l p m q → m ≤ l → q ≤ p → ⊥
not_before l p m q (inl a) low other = absurd (omega (arith, a, low))
not_before l p m q (inr a) low other = absurd (omega (arith, a.1, other))

module _ (levels order : List ℕ) (is : IsOrderBy levels order) where
  before_by : (d j a b : ℕ) → slice_get order j ≡ Some a → slice_get order (j + suc d) ≡ Some b → IsBefore (slice_index levels a) a (slice_index levels b) b
  before_by zero j a b first last =
      let next : j + suc zero ≡ j + 1 = omega arith in
      let P : ℕ → Type 0 = λ n. slice_get order n ≡ Some b in
      is.rises j a b first (subst P next last)
  before_by (suc d) j a b first last =
      let less : j + suc (suc d) < length order = slice_get_within order (j + suc (suc d)) b last in
      let mid = get_below order (j + suc d) (omega (arith, less)) in
      let next : j + suc (suc d) ≡ (j + suc d) + 1 = omega arith in
      let P : ℕ → Type 0 = λ n. slice_get order n ≡ Some b in
      next_before (slice_index levels a) a (slice_index levels mid.0) mid.0 (slice_index levels b) b (before_by d j a mid.0 first mid.1) (is.rises (j + suc d) mid.0 b mid.1 (subst P next last))

  pub before : (i j a b : ℕ) → i < j → slice_get order i ≡ Some a → slice_get order j ≡ Some b → IsBefore (slice_index levels a) a (slice_index levels b) b
  before i j a b less first last =
      let sum : j ≡ i + suc (j - suc i) = omega (arith, less) in
      let P : ℕ → Type 0 = λ n. slice_get order n ≡ Some b in
      before_by (j - suc i) i a b first (subst P sum last)

  one_place : (i j a : ℕ) → slice_get order i ≡ Some a → slice_get order j ≡ Some a → i ≡ j
  one_place i j a first other =
      elim (cases_order i j) [
        | inl same ↦ same
        | inr apart ↦ elim apart [
          | inl low ↦ absurd (not_before (slice_index levels a) a (slice_index levels a) a (before i j a a low first other) (omega arith) (omega arith))
          | inr high ↦ absurd (not_before (slice_index levels a) a (slice_index levels a) a (before j i a a high other first) (omega arith) (omega arith))
        ]
      ]

at_least : (levels : List ℕ) (m : ℕ) (bs : List ℕ) → m ≤ level_from levels m bs
at_least levels m [] = omega arith
at_least levels m (b ∷ bs) = omega (arith, at_least levels (max m (slice_index levels b + 1)) bs)

over_each : (levels : List ℕ) (m : ℕ) (bs : List ℕ) (i b : ℕ) → slice_get bs i ≡ Some b → slice_index levels b < level_from levels m bs
over_each levels m [] i b got = absurd (cc)
over_each levels m (c ∷ bs) zero b got =
    let same : c ≡ b = cc in
    let level : slice_index levels c ≡ slice_index levels b = ap (slice_index levels) same in
    omega (arith, level, at_least levels (max m (slice_index levels c + 1)) bs)
over_each levels m (c ∷ bs) (suc i) b got = over_each levels (max m (slice_index levels c + 1)) bs i b got

-- each point stands after those to which it leads
pub level_arranged : (graph : Graph) (order : List ℕ) → IsInside graph → IsLevelOrder graph order → IsArranged graph (first_numbers (length graph)) order
level_arranged graph order edges_inside (levels, levels_are, is) = record {
  has_roots = λ a has. is.each a (omega (arith, levels_are.long, numbers_long (length graph), slice_get_within (first_numbers (length graph)) has.0 a has.1, read_number (length graph) has.0 a has.1));
  only = λ a has. inl (a, number_at (length graph) a (omega (arith, is.within a has, levels_are.long)));
  inside = λ a has. omega (arith, is.within a has, levels_are.long);
  once = one_place levels order is;
  after = after;
}
  where
    after : (i a b : ℕ) → slice_get order i ≡ Some a → HasEdge graph a b → (j : ℕ) × (j < i) × (slice_get order j ≡ Some b)
    after i a b at edge =
        let place = is.each b (omega (arith, levels_are.long, edges_inside a b edge)) in
        let level = get_below levels a (is.within a (i, at)) in
        let over : slice_index levels b < level_over levels (edges graph a) = over_each levels 1 (edges graph a) edge.0 b edge.1 in
        let low : slice_index levels b < slice_index levels a = omega (arith, over, levels_are.over a level.0 level.1, get_or_from_slice_get levels a level.0 0 level.1) in
        elim (cases_order place.0 i) [
          | inl same ↦
              let P : ℕ → Type 0 = λ n. slice_get order n ≡ Some b in
              let here : slice_get order i ≡ Some b = subst P same place.1 in
              let at_a : slice_get order i ≡ Some a = at in
              let equal : a ≡ b = cc in
              let level_same : slice_index levels a ≡ slice_index levels b = ap (slice_index levels) equal in
              absurd (omega (arith, low, level_same))
          | inr apart ↦ elim apart [
            | inl earlier ↦ (place.0, earlier, place.1)
            | inr later ↦ absurd (not_lower (before levels order is i place.0 a b later at place.1) low)
          ]
        ]
      where
        not_lower : IsBefore (slice_index levels a) a (slice_index levels b) b → slice_index levels b < slice_index levels a → ⊥
        not_lower (inl x) lower = absurd (omega (arith, x, lower))
        not_lower (inr x) lower = absurd (omega (arith, x.0, lower))
