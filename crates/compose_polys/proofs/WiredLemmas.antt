-- Wired tops.
use Rattle.std.proofs.Common.{◌≡◌, ◌∙◌, ap, sym, refl, subst, ℕ, zero, suc, ◌<◌, ◌+◌, ◌-◌, List, [], ◌∷◌, ◌++◌, length, take, set, replicate, Some, arith, add-one}
use Rattle.std.specs.Prelude.{slice_get}
use Rattle.lists.specs.Lists.{Has}
use Rattle.lists.specs.laws.ListLaws.{length_map as mapped_long}
use Rattle.lists.specs.laws.TakeLaws.{taken_next}
use Rattle.compose_model.proofs.OneValueLemmas.{row_edges}
use Rattle.graph_core.specs.Arranged.{IsArranged}
use Rattle.graph_core.specs.Graph.{Graph, HasEdge, IsInside}
use Rattle.poly_mixed.specs.Polynomial.{IsReduced, Terms}
use Rattle.poly_mixed.specs.declared.stage.ReduceFault.{ReduceFault}
use Rattle.poly_mixed.specs.declared.stage.ReduceFault.TheVariants as stages
use Rattle.compose_polys.specs.Instance.{AreReduced}
use Rattle.compose_model.specs.Wiring.{feeding_graph, instances_among}
use Rattle.compose_model.specs.declared.feeder.Feeder.{Feeder}
use Rattle.compose_model.specs.declared.feeder.Feeder.TheVariants.{InputWord, OutputOf}
use Rattle.compose_polys.specs.LevelOrder.{first_numbers, IsLevelOrder}
use Rattle.compose_polys.proofs.AfterLemmas.{level_arranged}
use Rattle.compose_polys.specs.Instances.{IsReady, IsRefused}
use Rattle.compose_polys.specs.Words.{AreWordPolys, IsFeedAmong}
use Rattle.compose_polys.specs.Wired.{IsStageFault, IsTakenByLevel, IsWired}
use Rattle.compose_polys.specs.private.Rows.{instance_of}

-- ---- rows

among_last : (fs : List Feeder) (f : Feeder) → instances_among (fs ++ f ∷ []) ≡ instances_among fs ++ instance_of f
among_last [] (InputWord w) = refl
among_last [] (OutputOf i) = refl
among_last (InputWord w ∷ fs) f = among_last fs f
among_last (OutputOf i ∷ fs) f = ap (λ xs. i ∷ xs) (among_last fs f)

-- one feed more
pub row_more : (fs : List Feeder) (n : ℕ) (f : Feeder) (old new : List ℕ) → slice_get fs n ≡ Some f → old ≡ instances_among (take n fs) → new ≡ old ++ instance_of f → new ≡ instances_among (take (n + 1) fs)
row_more fs n f old new got is more =
    more ∙ ap (λ xs. xs ++ instance_of f) is ∙ sym (ap (λ m. instances_among (take m fs)) (add-one n) ∙ ap instances_among (taken_next fs n f got) ∙ among_last (take n fs) f)

-- ---- graphs

set_next : (xs : List (List ℕ)) (m : ℕ) (row : List ℕ) → set (xs ++ replicate (suc m) []) (length xs) row ≡ (xs ++ row ∷ []) ++ replicate m []
set_next [] m row = refl
set_next (x ∷ xs) m row = ap (λ ys. x ∷ ys) (set_next xs m row)

graph_last : (rows : List (List Feeder)) (feeds : List Feeder) → feeding_graph (rows ++ feeds ∷ []) ≡ feeding_graph rows ++ instances_among feeds ∷ []
graph_last [] feeds = refl
graph_last (row ∷ rows) feeds = ap (λ ys. instances_among row ∷ ys) (graph_last rows feeds)

row_taken : (rows : List (List Feeder)) (i : ℕ) (feeds : List Feeder) → slice_get rows i ≡ Some feeds → take (suc i) rows ≡ take i rows ++ feeds ∷ []
row_taken [] i feeds got = absurd (cc)
row_taken (row ∷ rows) zero feeds got = let same : row ≡ feeds = cc in ap (λ h. h ∷ []) same
row_taken (row ∷ rows) (suc i) feeds got = ap (λ gs. row ∷ gs) (row_taken rows i feeds got)

front_long : (rows : List (List Feeder)) (i : ℕ) (feeds : List Feeder) → slice_get rows i ≡ Some feeds → length (feeding_graph (take i rows)) ≡ i
front_long [] i feeds got = absurd (cc)
front_long (row ∷ rows) zero feeds got = refl
front_long (row ∷ rows) (suc i) feeds got = ap suc (front_long rows i feeds got)

-- one row more
pub graph_more : (rows : List (List Feeder)) (n i : ℕ) (feeds : List Feeder) (row : List ℕ) (old new : Graph) → i < n → slice_get rows i ≡ Some feeds → row ≡ instances_among feeds → old ≡ feeding_graph (take i rows) ++ replicate (n - i) [] → new ≡ set old i row → new ≡ feeding_graph (take (i + 1) rows) ++ replicate (n - (i + 1)) []
graph_more rows n i feeds row old new less got is so_far made =
    let down : n - i ≡ suc (n - (i + 1)) = omega (arith, less) in
    let front : Graph = feeding_graph (take i rows) in
    made
    ∙ ap (λ g. set g i row) (so_far ∙ ap (λ m. front ++ replicate m []) down)
    ∙ ap (λ j. set (front ++ replicate (suc (n - (i + 1))) []) j row) (sym (front_long rows i feeds got))
    ∙ set_next front (n - (i + 1)) row
    ∙ ap (λ r. (front ++ r ∷ []) ++ replicate (n - (i + 1)) []) is
    ∙ sym (ap (λ g. g ++ replicate (n - (i + 1)) []) (ap (λ m. feeding_graph (take m rows)) (add-one i) ∙ ap feeding_graph (row_taken rows i feeds got) ∙ graph_last (take i rows) feeds))

-- ---- feeds among words and instances

pub among_instances : (count n : ℕ) (feeds : List Feeder) → ((j : ℕ) (feed : Feeder) → slice_get feeds j ≡ Some feed → IsFeedAmong count n feed) → (k a : ℕ) → slice_get (instances_among feeds) k ≡ Some a → a < n
among_instances count n [] each k a got = absurd (cc)
among_instances count n (InputWord w ∷ feeds) each k a got = among_instances count n feeds (λ j feed at. each (suc j) feed at) k a got
among_instances count n (OutputOf i ∷ feeds) each zero a got = let same : i ≡ a = cc in let P : ℕ → Type 0 = λ x. x < n in subst P same (each 0 (OutputOf i) refl)
among_instances count n (OutputOf i ∷ feeds) each (suc k) a got = among_instances count n feeds (λ j feed at. each (suc j) feed at) k a got

pub edges_of : (rows : List (List Feeder)) (i b : ℕ) → HasEdge (feeding_graph rows) i b → (feeds : List Feeder) × (slice_get rows i ≡ Some feeds) × Has (instances_among feeds) b
edges_of [] i b has = let got = has.1 in absurd (cc)
edges_of (row ∷ rows) zero b has = (row, refl, has)
edges_of (row ∷ rows) (suc i) b has = edges_of rows i b has

-- where each feed is a word or an instance, the graph leads to instances
pub graph_inside : (count : ℕ) (rows : List (List Feeder)) → ((i j : ℕ) (feeds : List Feeder) (feed : Feeder) → slice_get rows i ≡ Some feeds → slice_get feeds j ≡ Some feed → IsFeedAmong count (length rows) feed) → IsInside (feeding_graph rows)
graph_inside count rows among a b edge =
    let found = edges_of rows a b edge in
    let less = among_instances count (length rows) found.0 (λ j feed got. among a j found.0 feed found.1 got) found.2.0 b found.2.1 in
    omega (arith, less, mapped_long instances_among rows)

module _ (k : ℕ) (count : ℕ) (blocks : List Terms) (rows : List (List Feeder)) (output : Feeder) (wired : IsWired k count blocks rows output) where
  inside : IsInside (feeding_graph rows)
  inside = graph_inside count rows wired.feeds_are

  -- the order by level is one in which the instances can be taken
  pub ready : (words : List Terms) (order : List ℕ) → AreReduced k words → length words ≡ count → IsLevelOrder (feeding_graph rows) order → IsReady k words blocks rows order
  ready words order reduced many by_level =
      let arranged : IsArranged (feeding_graph rows) (first_numbers (length (feeding_graph rows))) order = level_arranged (feeding_graph rows) order inside by_level in
      let P : ℕ → Feeder → Type 0 = λ n feed. IsFeedAmong n (length rows) feed in
      record {
        words_reduced = reduced;
        long = wired.long;
        few = wired.few;
        blocks_are = wired.blocks_are;
        feeds_are = λ i j feeds feed at got. let Q : ℕ → Type 0 = λ n. P n feed in subst Q (sym many) (wired.feeds_are i j feeds feed at got);
        inside = λ m i at. omega (arith, arranged.inside i (m, at), mapped_long instances_among rows);
        once = arranged.once;
        after = λ m i j feeds at row has. let R : List ℕ → Type 0 = λ js. Has js j in arranged.after m i j at (subst R (sym (row_edges rows i feeds row)) has);
      }

-- ---- words

pub words_reduced : (k : ℕ) (mul : ℕ → ℕ → ℕ) (words : List Terms) → AreWordPolys k mul words → AreReduced k words
words_reduced k mul words are = from words (λ w ts got. (are w ts got).reduced)
  where
    from : (ws : List Terms) → ((w : ℕ) (ts : Terms) → slice_get ws w ≡ Some ts → IsReduced k ts) → AreReduced k ws
    from [] each = tt
    from (t ∷ ws) each = (each 0 t refl, from ws (λ w ts got. each (suc w) ts got))

-- ---- stages

-- a stage over the bound as a fault of the top
pub stage_refused : (k : ℕ) (mul : ℕ → ℕ → ℕ) (count : ℕ) (blocks : List Terms) (rows : List (List Feeder)) (bound : ℕ) (words : List Terms) (order : List ℕ) (fault : ReduceFault) → IsTakenByLevel k mul count blocks rows bound words order → IsRefused k mul words blocks rows bound order fault → IsStageFault k mul count blocks rows bound fault
stage_refused k mul count blocks rows bound words order (stages.TooManyTerms stage n) taken refused = record { words = words; order = order; taken = taken; refused = refused }
stage_refused k mul count blocks rows bound words order stages.OutOfMemory taken refused = tt
