-- A walk goes no deeper than the chains of instances.
use Rattle.std.proofs.Common.{◌≡◌, ◌∙◌, ap, sym, refl, subst, ℕ, zero, suc, ◌+◌, Bool, true, false, cond, List, [], ◌∷◌, ◌++◌, filter, Option, None, Some, Result, Ok, Err}
use Rattle.std.specs.Prelude.{slice_get, unwrap_or}
use Rattle.std.specs.List.{list_any}
use Rattle.std.specs.Option.{option_map, option_map_or}
use Rattle.std.proofs.lemmas.Option.{slice_get-map}
use Rattle.lists.specs.laws.BoolLaws.{neither}
use Rattle.graph_core.specs.Graph.{edges}
use Rattle.net_blif.specs.Design.{ModelValue, items_of, model_named}
use Rattle.net_blif.specs.Chains.{graph_of, leads_on, row_of, AreWithinDepth}
use Rattle.net_blif.specs.Top.{instances_of, is_instance, model_in}
use Rattle.net_blif.specs.declared.fault.BlifFault.{BlifFault}
use Rattle.net_blif.specs.declared.fault.BlifFault.TheVariants.{TooDeep}
use Rattle.net_blif.specs.declared.item.Item.{Item}
use Rattle.net_blif.specs.declared.item.Item.TheVariants as items
use Rattle.net_flat.specs.Paths.{inner, Path, Scope}
use Rattle.net_flat.specs.Steps.{Step}
use Rattle.net_flat.specs.Walk.{lines_in, steps_in, walk_within}
use Rattle.net_flat.proofs.LiftLemmas.{walk_some}

module _ (design : List ModelValue) where
  abbrev leads : ℕ → ℕ → Bool
  leads depth model = leads_on (graph_of design) depth model

  -- a model leads to those of its instances
  edges_row : (model : ℕ) → edges (graph_of design) model ≡ row_of design (items_of design model)
  edges_row model = ap (λ (o : Option (List ℕ)). unwrap_or o []) (slice_get-map (λ (m : ModelValue). row_of design m.items) design model) ∙ by (slice_get design model)
    where
      by : (found : Option ModelValue) → unwrap_or (option_map (λ (m : ModelValue). row_of design m.items) found) [] ≡ row_of design (option_map_or (λ (m : ModelValue). m.items) found [])
      by None = refl
      by (Some m) = refl

  leads_some : (depth model : ℕ) → leads (suc depth) model ≡ list_any (λ b. leads depth b) (row_of design (items_of design model))
  unfolding leads_on
  leads_some depth model = ap (list_any (λ b. leads_on (graph_of design) depth b)) (edges_row model)

  leads_nowhere : (model : ℕ) → leads 0 model ≡ true
  unfolding leads_on
  leads_nowhere model = refl

  abbrev into : Option ℕ → List ℕ
  into found = option_map_or (λ model. model ∷ []) found []

  module _ (depth : ℕ) (deeper : (model : ℕ) → leads depth model ≡ false → (scope : Scope) → walk_within (suc depth) design scope model ≡ walk_within depth design scope model) where
    instance_same : (scope : Scope) (found : Option ℕ) (rest : List ℕ) → list_any (λ b. leads depth b) (into found ++ rest) ≡ false
        → (list_any (λ b. leads depth b) rest ≡ false) × (option_map_or (walk_within (suc depth) design scope) found [] ≡ option_map_or (walk_within depth design scope) found [])
    instance_same scope None rest none = (none, refl)
    instance_same scope (Some m) rest none = let both = neither (leads depth m) (list_any (λ b. leads depth b) rest) none in (both.1, deeper m both.0 scope)

    lines_same : (lines : List Item) (scope : Scope) (n : ℕ) → list_any (λ b. leads depth b) (row_of design lines) ≡ false → lines_in (walk_within (suc depth) design) design scope n lines ≡ lines_in (walk_within depth design) design scope n lines
    lines_same [] scope n none = refl
    lines_same (items.Inputs names ∷ lines) scope n none = ap (λ (rest : List (Step Path)). steps_in scope (items.Inputs names) ++ rest) (lines_same lines scope n none)
    lines_same (items.Outputs names ∷ lines) scope n none = ap (λ (rest : List (Step Path)). steps_in scope (items.Outputs names) ++ rest) (lines_same lines scope n none)
    lines_same (items.Gate line inputs out table ∷ lines) scope n none = ap (λ (rest : List (Step Path)). steps_in scope (items.Gate line inputs out table) ++ rest) (lines_same lines scope n none)
    lines_same (items.Latch line next out start ∷ lines) scope n none = ap (λ (rest : List (Step Path)). steps_in scope (items.Latch line next out start) ++ rest) (lines_same lines scope n none)
    lines_same (items.Instance line model connections ∷ lines) scope n none =
        let both = instance_same (inner scope n connections) (model_named design model) (row_of design lines) none in
        λ j. steps_in scope (items.Instance line model connections) ++ (both.1 j ++ lines_same lines scope (n + 1) both.0 j)

  -- one level more is not walked
  pub no_deeper : (depth model : ℕ) → leads depth model ≡ false → (scope : Scope) → walk_within (suc depth) design scope model ≡ walk_within depth design scope model
  no_deeper zero model none scope = let all : leads 0 model ≡ true = leads_nowhere model in absurd (cc)
  no_deeper (suc depth) model none scope =
      walk_some (suc depth) design scope model
      ∙ (lines_same depth (no_deeper depth) (items_of design model) scope 1 (sym (leads_some depth model) ∙ none)
      ∙ sym (walk_some depth design scope model))

  instance_leads : (depth : ℕ) (lines : List Item) (i model : ℕ) (item : Item) → list_any (λ b. leads depth b) (row_of design lines) ≡ false → slice_get (filter is_instance lines) i ≡ Some item → model_named design (model_in item) ≡ Some model → leads depth model ≡ false
  instance_leads depth [] i model item none got named = absurd (cc)
  instance_leads depth (items.Inputs names ∷ lines) i model item none got named = instance_leads depth lines i model item none got named
  instance_leads depth (items.Outputs names ∷ lines) i model item none got named = instance_leads depth lines i model item none got named
  instance_leads depth (items.Gate line inputs out table ∷ lines) i model item none got named = instance_leads depth lines i model item none got named
  instance_leads depth (items.Latch line next out start ∷ lines) i model item none got named = instance_leads depth lines i model item none got named
  instance_leads depth (items.Instance line name connections ∷ lines) zero model item none got named =
      let same : items.Instance line name connections ≡ item = cc in
      let found : model_named design name ≡ Some model = ap (λ (x : Item). model_named design (model_in x)) same ∙ named in
      let P : Option ℕ → Type 0 = λ o. list_any (λ b. leads depth b) (into o ++ row_of design lines) ≡ false in
      let here : list_any (λ b. leads depth b) (model ∷ row_of design lines) ≡ false = subst P found none in
      (neither (leads depth model) (list_any (λ b. leads depth b) (row_of design lines)) here).0
  instance_leads depth (items.Instance line name connections ∷ lines) (suc i) model item none got named =
      instance_leads depth lines i model item (later (model_named design name) none) got named
    where
      later : (found : Option ℕ) → list_any (λ b. leads depth b) (into found ++ row_of design lines) ≡ false → list_any (λ b. leads depth b) (row_of design lines) ≡ false
      later None e = e
      later (Some m) e = (neither (leads depth m) (list_any (λ b. leads depth b) (row_of design lines)) e).1

  within : AreWithinDepth design (Ok tt) → leads 64 0 ≡ false
  within e = by (leads 64 0) e
    where
      by : (b : Bool) → ◌≡◌ {A = Result (Unit {0}) BlifFault} (Ok tt) (cond b (Err TooDeep) (Ok tt)) → b ≡ false
      by true e = absurd (cc)
      by false e = refl

  -- the model of an instance of the top has the same walk with one level less
  pub shallow_instance : (i model : ℕ) (item : Item) → AreWithinDepth design (Ok tt) → slice_get (instances_of design) i ≡ Some item → model_named design (model_in item) ≡ Some model → (scope : Scope) → walk_within 64 design scope model ≡ walk_within 63 design scope model
  shallow_instance i model item deep got named scope =
      no_deeper 63 model (instance_leads 63 (items_of design 0) i model item (sym (leads_some 63 0) ∙ within deep) got named) scope
