-- The graph of models, and how far its edges lead.
use Rattle.std.proofs.Common.{◌≡◌, ◌∙◌, inl, inr, ap, sym, refl, subst, append_assoc, append-nil, ℕ, zero, suc, ◌+◌, ◌<◌, Bool, true, false, cond, ◌||◌, List, [], ◌∷◌, ◌++◌, length, take, get_or, set, replicate, Option, None, Some, arith}
use Rattle.std.specs.Prelude.{All, slice_get, slice_index_or}
use Rattle.std.specs.List.{list_any}
use Rattle.std.specs.Option.{option_map, option_map_or}
use Rattle.std.specs.Str.{bytes_eq}
use Rattle.std.proofs.Math.Seq.{take-suc}
use Rattle.std.proofs.lemmas.List.{length-append, length-map, length-replicate, length-set}
use Rattle.std.proofs.lemmas.List.Elements.{All-append}
use Rattle.std.proofs.lemmas.Option.{slice_get-map, slice_get_within}
use Rattle.lists.specs.laws.NumberLaws.{nat_eq_or}
use Rattle.lists.specs.laws.ReadLaws.{same_lists, get_set_other, get_set_same, get_below as some_at}
use Rattle.graph_core.specs.Graph.{Graph, edges, IsCycle, IsInside}
use Rattle.graph_core.specs.Cycle.{IsCycleOf, IsGrounded}
use Rattle.graph_core.specs.Arranged.{IsArranged}
use Rattle.graph_core.proofs.GraphLemmas.{edges_within}
use Rattle.graph_core.proofs.LawLemmas.{arranged_grounded, is_cycle}
use Rattle.net_blif.specs.Statement.{Token}
use Rattle.net_blif.specs.Design.{ModelValue, items_of, model_from, model_named, name_of}
use Rattle.net_blif.specs.Chains.{graph_of, leads_on, models_in, row_of}
use Rattle.net_blif.specs.private.Leading.{AreMarks, LeadOn, LeadTo}
use Rattle.net_blif.specs.declared.item.Item.{Item}
use Rattle.net_blif.specs.declared.item.Item.TheVariants.{Inputs, Outputs, Gate, Latch, Instance}

named_from : (n : ℕ) (models : List ModelValue) (name : Token) (k : ℕ) → model_from n models name ≡ Some k → k < n + length models
named_from n [] name k found = absurd (cc)
named_from n (m ∷ ms) name k found =
    elim (bytes_eq name m.name) as (λ b. cond b (Some n) (model_from (n + 1) ms name) ≡ Some k → k < n + suc (length ms)) [
      | true ↦ λ e. let same : n ≡ k = cc in omega arith
      | false ↦ λ e. let less = named_from (n + 1) ms name k e in omega arith
    ] found

-- a model that is found is one of them
pub named_below : (models : List ModelValue) (name : Token) (k : ℕ) → model_named models name ≡ Some k → k < length models
named_below models name k found = let less = named_from 0 models name k found in omega (arith, less)

none_inside : (n : ℕ) → All (λ a. a < n) []
none_inside n k d less = absurd (omega arith)

in_inside : (models : List ModelValue) (item : Item) → All (λ a. a < length models) (models_in models item)
in_inside models (Inputs nets) = none_inside (length models)
in_inside models (Outputs nets) = none_inside (length models)
in_inside models (Gate line inputs out table) = none_inside (length models)
in_inside models (Latch line next out start) = none_inside (length models)
in_inside models (Instance line name connections) = by (model_named models name) refl
  where
    by : (found : Option ℕ) → model_named models name ≡ found → All (λ a. a < length models) (option_map_or (λ model. model ∷ []) found [])
    by None e = none_inside (length models)
    by (Some k) e = one
      where
        one : (i d : ℕ) → i < 1 → get_or (k ∷ []) i d < length models
        one zero d less = named_below models name k e
        one (suc i) d less = absurd (omega arith)

-- a row leads to models
pub row_inside : (models : List ModelValue) (items : List Item) → All (λ a. a < length models) (row_of models items)
row_inside models [] = none_inside (length models)
row_inside models (item ∷ items) = All-append (λ a. a < length models) (models_in models item) (row_of models items) (in_inside models item) (row_inside models items)

flat_append : (models : List ModelValue) (xs : List Item) (item : Item) → row_of models (xs ++ item ∷ []) ≡ row_of models xs ++ models_in models item
flat_append models [] item = append-nil (models_in models item)
flat_append models (x ∷ xs) item = ap (λ (r : List ℕ). models_in models x ++ r) (flat_append models xs item) ∙ sym (append_assoc (models_in models x) (row_of models xs) (models_in models item))

-- the row of one more item
pub row_more : (models : List ModelValue) (items : List Item) (i : ℕ) (item d : Item) (row new : List ℕ) → i < length items → item ≡ get_or items i d → row ≡ row_of models (take i items) → new ≡ row ++ models_in models item → new ≡ row_of models (take (i + 1) items)
row_more models items i item d row new below is was made =
    let whole : take (i + 1) items ≡ take i items ++ item ∷ [] = rw add-one (take-suc items i d below) ∙ ap (λ (x : Item). take i items ++ x ∷ []) (sym is) in
    made ∙ (ap (λ (r : List ℕ). r ++ models_in models item) was ∙ (sym (flat_append models (take i items) item) ∙ ap (row_of models) (sym whole)))
  where
    add-one : i + 1 ≡ suc i
    add-one = omega arith

-- the rows so far
pub record IsBuilt (models : List ModelValue) (built : ℕ) (graph : Graph) : Type 0 where
  pub long : length graph ≡ length models
  pub each : (k : ℕ) → k < built → slice_get graph k ≡ slice_get (graph_of models) k

-- the row of a model
row_at : (models : List ModelValue) (k : ℕ) → k < length models → slice_get (graph_of models) k ≡ Some (row_of models (items_of models k))
row_at models k below = slice_get-map (λ (m : ModelValue). row_of models m.items) models k ∙ by (slice_get models k) refl
  where
    lacks : (xs : List ModelValue) (k : ℕ) → k < length xs → slice_get xs k ≡ None → ⊥
    lacks [] k below none = omega arith
    lacks (x ∷ xs) zero below none = cc
    lacks (x ∷ xs) (suc k) below none = lacks xs k (omega arith) none

    by : (found : Option ModelValue) → slice_get models k ≡ found → option_map (λ (m : ModelValue). row_of models m.items) found ≡ Some (row_of models (option_map_or (λ (m : ModelValue). m.items) found []))
    by (Some m) e = refl
    by None e = absurd (lacks models k below e)

pub built_more : (models : List ModelValue) (built : ℕ) (graph new : Graph) (row : List ℕ) → built < length models → IsBuilt models built graph → row ≡ row_of models (items_of models built) → new ≡ set graph built row → IsBuilt models (built + 1) new
built_more models built graph new row below is same made =
    let P : Graph → Type 0 = IsBuilt models (built + 1) in
    subst P (sym made) (record { long = length-set graph built row ∙ is.long; each = each })
  where
    each : (k : ℕ) → k < built + 1 → slice_get (set graph built row) k ≡ slice_get (graph_of models) k
    each k less = elim (nat_eq_or k built) [
      | inl here ↦
          let inside : built < length graph = rw (is.long) below in
          let was = some_at graph built inside in
          let now : slice_get (set graph built row) built ≡ Some row = get_set_same graph built was.0 row was.1 in
          rw here (now ∙ ap Some same ∙ sym (row_at models built below))
      | inr other ↦
          let lower : k < built = omega (arith, less, other) in
          let inside : k < length graph = rw (is.long) (omega (arith, lower, below)) in
          let was = some_at graph k inside in
          get_set_other graph built row k was.0 other was.1 ∙ sym was.1 ∙ is.each k lower
    ]

pub built_start : (models : List ModelValue) (graph : Graph) (n : ℕ) → n ≡ length models → graph ≡ replicate n [] → IsBuilt models 0 graph
built_start models graph n count is = record { long = ap length is ∙ (length-replicate n [] ∙ count); each = λ k less. absurd (omega arith) }

-- a row leads to points of the graph
pub row_below : (models : List ModelValue) (items : List Item) (row : List ℕ) (graph : Graph) → length graph ≡ length models → row ≡ row_of models items → All (λ a. a < length graph) row
row_below models items row graph long is =
    let P : List ℕ → Type 0 = All (λ a. a < length graph) in
    let Q : ℕ → Type 0 = λ n. All (λ a. a < n) (row_of models items) in
    subst P (sym is) (subst Q (sym long) (row_inside models items))

pub built_whole : (models : List ModelValue) (graph : Graph) → IsBuilt models (length models) graph → graph ≡ graph_of models
built_whole models graph is = same_lists graph (graph_of models) (is.long ∙ sym (length-map models (λ (m : ModelValue). row_of models m.items))) same
  where
    same : (k : ℕ) (a b : List ℕ) → slice_get graph k ≡ Some a → slice_get (graph_of models) k ≡ Some b → a ≡ b
    same k a b here there =
        let below : k < length models = rw (← is.long) (slice_get_within graph k a here) in
        let equal : Some a ≡ Some b = sym here ∙ is.each k below ∙ there in
        cc

-- the walk from the top ends where its points can be put in order
pub top_grounded : (graph : Graph) (order : List ℕ) → IsArranged graph (0 ∷ []) order → IsGrounded graph 0
top_grounded graph order is = arranged_grounded graph (0 ∷ []) order 0 is (is.has_roots 0 (0, refl))

-- the first point of a cycle
pub first_of_cycle : (graph : Graph) (cycle : List ℕ) → IsCycleOf graph (0 ∷ []) cycle → (a : ℕ) × (slice_get cycle 0 ≡ Some a) × (a < length graph)
first_of_cycle graph cycle is = first cycle (is_cycle graph (0 ∷ []) cycle is)
  where
    first : (cycle : List ℕ) → IsCycle graph cycle → (a : ℕ) × (slice_get cycle 0 ≡ Some a) × (a < length graph)
    first [] h = absurd h
    first (a ∷ []) (k, at) = (a, refl, edges_within graph a k a at)
    first (a ∷ c ∷ cs) ((k, at), rest) = (a, refl, edges_within graph a k c at)

-- how many rows there are
pub rows : (models : List ModelValue) → length (graph_of models) ≡ length models
rows models = length-map models (λ (m : ModelValue). row_of models m.items)

any_same : (graph : Graph) (n : ℕ) (marks : List Bool) (points : List ℕ) → LeadOn graph n marks → All (λ b. b < length graph) points → list_any (λ b. slice_index_or marks b false) points ≡ list_any (λ b. leads_on graph n b) points
any_same graph n marks [] is inside = refl
any_same graph n marks (p ∷ points) is inside =
    let below : p < length graph = inside zero 0 (omega arith) in
    let here : get_or marks p false ≡ leads_on graph n p = at marks p (leads_on graph n p) (is.each p below) in
    ap (λ b. b || list_any (λ b. slice_index_or marks b false) points) here ∙ ap (λ b. leads_on graph n p || b) (any_same graph n marks points is (λ k d less. inside (suc k) d (omega arith)))
  where
    at : (xs : List Bool) (k : ℕ) (x : Bool) → slice_get xs k ≡ Some x → get_or xs k false ≡ x
    at [] k x e = absurd (cc)
    at (y ∷ ys) zero x e = cc
    at (y ∷ ys) (suc k) x e = at ys k x e

-- each point leads on over no edge
pub leads_none : (graph : Graph) (a : ℕ) → leads_on graph 0 a ≡ true
unfolding leads_on
leads_none graph a = refl

-- edges of a graph lead to its points
pub all_inside : (graph : Graph) (a : ℕ) → IsInside graph → All (λ b. b < length graph) (edges graph a)
all_inside graph a inside = all (edges graph a) (λ b has. inside a b has)
  where
    all : (xs : List ℕ) → ((b : ℕ) → (k : ℕ) × (slice_get xs k ≡ Some b) → b < length graph) → All (λ b. b < length graph) xs
    all [] each k d less = absurd (omega arith)
    all (x ∷ xs) each zero d less = each x (0, refl)
    all (x ∷ xs) each (suc k) d less = all xs (λ b has. each b (suc has.0, has.1)) k d (omega arith)

-- one edge more, and then the others
pub leads_suc : (graph : Graph) (n a : ℕ) → list_any (λ b. leads_on graph n b) (edges graph a) ≡ leads_on graph (suc n) a
unfolding leads_on
leads_suc graph n a = refl

-- one edge more
pub lead_further : (graph : Graph) (n : ℕ) (marks more : List Bool) → IsInside graph → LeadOn graph n marks → LeadTo graph marks more → LeadOn graph (n + 1) more
lead_further graph n marks more inside is to =
    let P : ℕ → Type 0 = λ k. LeadOn graph k more in
    let same : suc n ≡ n + 1 = omega arith in
    subst P same (record { long = to.long; each = λ a below. to.each a below ∙ ap Some (any_same graph n marks (edges graph a) is (all_inside graph a inside) ∙ leads_suc graph n a) })

-- one mark more
pub marks_more : (mark : ℕ → Bool) (n : ℕ) (marks new : List Bool) (b : Bool) → AreMarks mark n marks → new ≡ marks ++ b ∷ [] → b ≡ mark n → AreMarks mark (n + 1) new
marks_more mark n marks new b is pushed same =
    let P : List Bool → Type 0 = AreMarks mark (n + 1) in
    subst P (sym pushed) (record { long = length-append marks (b ∷ []) ∙ ap (λ k. k + 1) is.long; each = each })
  where
    front : (xs : List Bool) (b : Bool) (k : ℕ) (x : Bool) → slice_get xs k ≡ Some x → slice_get (xs ++ b ∷ []) k ≡ Some x
    front [] b k x at = absurd (cc)
    front (y ∷ ys) b zero x at = at
    front (y ∷ ys) b (suc k) x at = front ys b k x at

    back : (xs : List Bool) (b : Bool) → slice_get (xs ++ b ∷ []) (length xs) ≡ Some b
    back [] b = refl
    back (y ∷ ys) b = back ys b

    each : (a : ℕ) → a < n + 1 → slice_get (marks ++ b ∷ []) a ≡ Some (mark a)
    each a less = elim (nat_eq_or a n) [
      | inl here ↦ let at : a ≡ length marks = here ∙ sym is.long in ap (slice_get (marks ++ b ∷ [])) at ∙ (back marks b ∙ ap Some (same ∙ ap mark (sym here)))
      | inr other ↦ front marks b a (mark a) (is.each a (omega (arith, less, other)))
    ]

pub no_marks : (mark : ℕ → Bool) (marks : List Bool) → marks ≡ [] → AreMarks mark 0 marks
no_marks mark marks none = let P : List Bool → Type 0 = AreMarks mark 0 in subst P (sym none) (record { long = refl; each = λ a less. absurd (omega arith) })

pub all_marked : (mark : ℕ → Bool) (n m : ℕ) (marks : List Bool) → n ≡ m → AreMarks mark n marks → AreMarks mark m marks
all_marked mark n m marks same is = let P : ℕ → Type 0 = λ k. AreMarks mark k marks in subst P same is

-- the edges of a point lead to marks
pub marks_inside : (graph : Graph) (marks : List Bool) (a : ℕ) (points : List ℕ) → IsInside graph → length marks ≡ length graph → points ≡ edges graph a → All (λ b. b < length marks) points
marks_inside graph marks a points inside long is =
    let P : List ℕ → Type 0 = All (λ b. b < length marks) in
    let Q : ℕ → Type 0 = λ k. All (λ b. b < k) (edges graph a) in
    subst P (sym is) (subst Q (sym long) (all_inside graph a inside))

-- the first point of a cycle is a model, which has this name
pub first_below : (models : List ModelValue) (cycle : List ℕ) (a : ℕ) → IsCycleOf (graph_of models) (0 ∷ []) cycle → slice_get cycle 0 ≡ Some a → a < length models
first_below models cycle a is at =
    let h = first_of_cycle (graph_of models) cycle is in
    let same : Some h.0 ≡ Some a = sym h.1 ∙ at in
    let number : h.0 ≡ a = cc in
    omega (arith, h.2, number, rows models)

pub named_is : (models : List ModelValue) (k : ℕ) (text : Token) → k < length models → ((m : ModelValue) → slice_get models k ≡ Some m → text ≡ m.name) → text ≡ name_of models k
named_is models k text below each = let m = some_at models k below in each m.0 m.1 ∙ sym (ap (λ (o : Option ModelValue). option_map_or (λ (m : ModelValue). m.name) o []) m.1)
