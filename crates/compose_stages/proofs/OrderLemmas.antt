-- The order of instances by level and number.
use Rattle.std.proofs.Common.{◌≡◌, ◌∙◌, ap, sym, refl, subst, inl, inr, ℕ, zero, suc, ◌<◌, ◌+◌, max, List, [], ◌∷◌, length, Some, arith}
use Rattle.std.specs.Prelude.{slice_get, slice_index}
use Rattle.std.proofs.lemmas.Bool.{cases_lt, cases_order}
use Rattle.std.proofs.lemmas.List.{get_or_past}
use Rattle.std.proofs.lemmas.Option.{get_or_from_slice_get, slice_get_within}
use Rattle.lists.specs.Lists.{Has}
use Rattle.lists.specs.laws.ReadLaws.{get_below}
use Rattle.graph_core.specs.Cycle.{grounded, IsGrounded}
use Rattle.graph_core.specs.Graph.{edges, Graph, HasEdge, IsInside}
use Rattle.graph_core.proofs.LawLemmas.{arranged_grounded}
use Rattle.net_core.specs.Order.{IsBefore}
use Rattle.net_blif.specs.Top.{instances_of}
use Rattle.compose_model.specs.Feeds.{IsOutputOf}
use Rattle.compose_model.specs.Hierarchy.{Hierarchy}
use Rattle.compose_model.specs.NamedWord.{inputs_among}
use Rattle.compose_model.specs.Wiring.{feeding_graph, instances_among, AreAllFeeds, IsWithoutCycle}
use Rattle.compose_model.specs.declared.feeder.Feeder.{Feeder}
use Rattle.compose_model.specs.declared.feeder.Feeder.TheVariants.{InputWord, OutputOf}
use Rattle.compose_polys.specs.LevelOrder.{first_numbers, level_from, AreLevels, IsLevelOrder, IsOrderBy}
use Rattle.compose_polys.proofs.AfterLemmas.{all_stand, level_arranged, before as before_at}
use Rattle.compose_polys.proofs.WiredLemmas.{edges_of}

-- ---- rows

pub graph_long : (rows : List (List Feeder)) → length (feeding_graph rows) ≡ length rows
graph_long [] = refl
graph_long (row ∷ rows) = ap suc (graph_long rows)

fed_by : (fs : List Feeder) (l a : ℕ) → slice_get (instances_among fs) l ≡ Some a → (n : ℕ) × (slice_get fs n ≡ Some (OutputOf a))
fed_by [] l a got = absurd (cc)
fed_by (InputWord w ∷ fs) l a got = let found = fed_by fs l a got in (suc found.0, found.1)
fed_by (OutputOf i ∷ fs) zero a got = let same : i ≡ a = cc in (zero, ap (λ j. Some (OutputOf j)) same)
fed_by (OutputOf i ∷ fs) (suc l) a got = let found = fed_by fs l a got in (suc found.0, found.1)

-- instances are fed by instances
pub rows_inside : (h : Hierarchy) (rows : List (List Feeder)) → AreAllFeeds h rows → IsInside (feeding_graph rows)
rows_inside h rows all a b edge =
    let row = edges_of rows a b edge in
    let fed = all.each a row.0 row.1 in
    let at = fed_by row.0 row.2.0 b row.2.1 in
    let word = get_below (inputs_among fed.words) at.0 (omega (arith, fed.long, slice_get_within row.0 at.0 (OutputOf b) at.1)) in
    let fits = fed.each at.0 word.0 (OutputOf b) word.1 at.1 in
    let is : IsOutputOf h b fits.nets word.0.basis = fits.stands in
    omega (arith, slice_get_within (instances_of h.design) b is.item is.instance.at, all.long, graph_long rows)

pub no_cycle : (h : Hierarchy) (rows : List (List Feeder)) (order : List ℕ) → AreAllFeeds h rows → IsLevelOrder (feeding_graph rows) order → IsWithoutCycle rows
no_cycle h rows order all by_level i less =
    let graph : Graph = feeding_graph rows in
    let arranged = level_arranged graph order (rows_inside h rows all) by_level in
    arranged_grounded graph (first_numbers (length graph)) order i arranged (all_stand graph order arranged i (omega (arith, less, graph_long rows)))

-- ---- levels

module _ (graph : Graph) (one other : List ℕ) (a : AreLevels graph one) (b : AreLevels graph other) where
  same_over : (m : ℕ) (bs : List ℕ) → ((c : ℕ) → Has bs c → slice_index one c ≡ slice_index other c) → level_from one m bs ≡ level_from other m bs
  same_over m [] same = refl
  same_over m (c ∷ bs) same =
      ap (λ x. level_from one (max m (x + 1)) bs) (same c (zero, refl))
      ∙ same_over (max m (slice_index other c + 1)) bs (λ d has. same d (suc has.0, has.1))

  next_level : (i : ℕ) → ((c : ℕ) → HasEdge graph i c → slice_index one c ≡ slice_index other c) → slice_index one i ≡ slice_index other i
  next_level i earlier =
      elim (cases_lt i (length graph)) [
        | inl less ↦
            let x = get_below one i (omega (arith, less, a.long)) in
            let y = get_below other i (omega (arith, less, b.long)) in
            get_or_from_slice_get one i x.0 0 x.1 ∙ a.over i x.0 x.1 ∙ same_over 1 (edges graph i) earlier
            ∙ sym (get_or_from_slice_get other i y.0 0 y.1 ∙ b.over i y.0 y.1)
        | inr past ↦ get_or_past one i 0 (omega (arith, past, a.long)) ∙ sym (get_or_past other i 0 (omega (arith, past, b.long)))
      ]

  -- a grounded point has one level
  pub one_level : (i : ℕ) → IsGrounded graph i → slice_index one i ≡ slice_index other i
  one_level _ (grounded i below) = next_level i (λ c edge. one_level c (below c edge))

-- ---- places in the order

not_both : (l p m q : ℕ) → IsBefore l p m q → IsBefore m q l p → ⊥
not_both l p m q (inl a) (inl b) = absurd (omega (arith, a, b))
not_both l p m q (inl a) (inr b) = absurd (omega (arith, a, b.0))
not_both l p m q (inr a) (inl b) = absurd (omega (arith, a.0, b))
not_both l p m q (inr a) (inr b) = absurd (omega (arith, a.1, b.1))

module _ (levels order : List ℕ) (is : IsOrderBy levels order) where
  -- what comes before stands before
  pub stands_before : (m n a b : ℕ) → slice_get order m ≡ Some a → slice_get order n ≡ Some b → IsBefore (slice_index levels a) a (slice_index levels b) b → m < n
  stands_before m n a b at_a at_b before =
      elim (cases_order m n) [
        | inl same ↦
            let P : ℕ → Type 0 = λ l. slice_get order l ≡ Some a in
            let here : slice_get order n ≡ Some a = subst P same at_a in
            let there : slice_get order n ≡ Some b = at_b in
            let equal : b ≡ a = cc in
            let Q : ℕ → Type 0 = λ c. IsBefore (slice_index levels a) a (slice_index levels c) c in
            let own = subst Q equal before in
            absurd (not_both (slice_index levels a) a (slice_index levels a) a own own)
        | inr apart ↦ elim apart [
          | inl low ↦ low
          | inr high ↦ absurd (not_both (slice_index levels a) a (slice_index levels b) b before (before_at levels order is n m b a high at_b at_a))
        ]
      ]
