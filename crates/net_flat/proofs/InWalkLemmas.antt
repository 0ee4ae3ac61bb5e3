-- The walk over the top has that of an instance in it.
use Rattle.std.proofs.Common.{◌≡◌, ◌∙◌, ap, sym, subst, append_assoc, ℕ, zero, suc, ◌+◌, List, [], ◌∷◌, ◌++◌, filter, Some, arith}
use Rattle.std.specs.Prelude.{slice_get}
use Rattle.std.specs.Option.{option_map_or}
use Rattle.net_blif.specs.Design.{ModelValue, model_named}
use Rattle.net_blif.specs.Top.{connections_in, is_instance, model_in}
use Rattle.net_blif.specs.declared.item.Item.{Item}
use Rattle.net_blif.specs.declared.item.Item.TheVariants as items
use Rattle.net_flat.specs.Paths.{inner, Path, Scope}
use Rattle.net_flat.specs.Steps.{Step}
use Rattle.net_flat.specs.Walk.{lines_in, steps_in}

-- steps that stand in others
pub record StandIn (part steps : List (Step Path)) : Type 0 where
  pub before : List (Step Path)
  pub after : List (Step Path)
  pub is : steps ≡ before ++ (part ++ after)

later_in : (front part steps : List (Step Path)) → StandIn part steps → StandIn part (front ++ steps)
later_in front part steps in_it = record {
  before = front ++ in_it.before;
  after = in_it.after;
  is = ap (λ (s : List (Step Path)). front ++ s) in_it.is ∙ sym (append_assoc front in_it.before (part ++ in_it.after));
}

module _ (inside : Scope → ℕ → List (Step Path)) (design : List ModelValue) (scope : Scope) where
  abbrev body_of : ℕ → Item → List (Step Path)
  body_of n item = option_map_or (inside (inner scope n (connections_in item))) (model_named design (model_in item)) []

  pub body_stands : (lines : List Item) (n k : ℕ) (item : Item) → slice_get (filter is_instance lines) k ≡ Some item → StandIn (body_of (n + k) item) (lines_in inside design scope n lines)
  body_stands [] n k item got = absurd (cc)
  body_stands (items.Inputs names ∷ lines) n k item got = later_in (steps_in scope (items.Inputs names)) (body_of (n + k) item) (lines_in inside design scope n lines) (body_stands lines n k item got)
  body_stands (items.Outputs names ∷ lines) n k item got = later_in (steps_in scope (items.Outputs names)) (body_of (n + k) item) (lines_in inside design scope n lines) (body_stands lines n k item got)
  body_stands (items.Gate line inputs out table ∷ lines) n k item got = later_in (steps_in scope (items.Gate line inputs out table)) (body_of (n + k) item) (lines_in inside design scope n lines) (body_stands lines n k item got)
  body_stands (items.Latch line next out start ∷ lines) n k item got = later_in (steps_in scope (items.Latch line next out start)) (body_of (n + k) item) (lines_in inside design scope n lines) (body_stands lines n k item got)
  body_stands (items.Instance line model connections ∷ lines) n zero item got =
      let same : items.Instance line model connections ≡ item = cc in
      let here : n ≡ n + 0 = omega arith in
      let body : body_of n (items.Instance line model connections) ≡ body_of (n + 0) item = (λ j. body_of (here j) (same j)) in
      record {
        before = steps_in scope (items.Instance line model connections);
        after = lines_in inside design scope (n + 1) lines;
        is = ap (λ (b : List (Step Path)). steps_in scope (items.Instance line model connections) ++ (b ++ lines_in inside design scope (n + 1) lines)) body;
      }
  body_stands (items.Instance line model connections ∷ lines) n (suc k) item got =
      let next : n + 1 + k ≡ n + suc k = omega arith in
      let P : ℕ → Type 0 = λ m. StandIn (body_of m item) (lines_in inside design scope (n + 1) lines) in
      later_in (steps_in scope (items.Instance line model connections)) (body_of (n + suc k) item) (body_of n (items.Instance line model connections) ++ lines_in inside design scope (n + 1) lines)
      (later_in (body_of n (items.Instance line model connections)) (body_of (n + suc k) item) (lines_in inside design scope (n + 1) lines) (subst P next (body_stands lines (n + 1) k item got)))
