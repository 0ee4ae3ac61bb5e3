-- What walks in instances go through, model by model.
use Rattle.std.proofs.Common.{◌≡◌, ◌∙◌, inl, inr, ap, sym, refl, subst, ℕ, List, [], Option, None, Some}
use Rattle.std.specs.Prelude.{slice_get, unwrap_or}
use Rattle.std.specs.Option.{option_map, option_map_or}
use Rattle.std.proofs.lemmas.Option.{slice_get-map}
use Rattle.net_blif.specs.Design.{ModelValue, items_of}
use Rattle.net_blif.specs.Ports.{IsBody}
use Rattle.net_blif.specs.private.Bodies.{body_of, AreBodies}
use Rattle.net_blif.specs.declared.item.Item.{Item}

-- the body of a model, or what its lines place
body_is : (models : List ModelValue) (bodies : List (List Item)) (k : ℕ) → AreBodies models bodies → IsBody (items_of models k) (unwrap_or (slice_get bodies k) (items_of models k))
body_is models bodies k (inl none) = inl (ap (λ (all : List (List Item)). unwrap_or (slice_get all k) (items_of models k)) none)
body_is models bodies k (inr are) =
    let P : List Item → Type 0 = IsBody (items_of models k) in
    let at : unwrap_or (slice_get bodies k) (items_of models k) ≡ unwrap_or (option_map body_of (slice_get models k)) (items_of models k) = ap (λ (all : List (List Item)). unwrap_or (slice_get all k) (items_of models k)) are ∙ ap (λ (o : Option (List Item)). unwrap_or o (items_of models k)) (slice_get-map body_of models k) in
    subst P (sym at) (by (slice_get models k))
  where
    by : (o : Option ModelValue) → IsBody (option_map_or (λ (m : ModelValue). m.items) o []) (unwrap_or (option_map body_of o) (option_map_or (λ (m : ModelValue). m.items) o []))
    by None = inl refl
    by (Some m) = inr refl

pub body_got : (models now : List ModelValue) (bodies slice : List (List Item)) (k : ℕ) (items body : List Item) → models ≡ now → AreBodies models bodies → slice ≡ bodies → items ≡ items_of models k → body ≡ unwrap_or (slice_get slice k) items → IsBody (items_of now k) body
body_got models now bodies slice k items body view are same placed got =
    let P : List Item → Type 0 = IsBody (items_of models k) in
    let Q : List ModelValue → Type 0 = λ ms. IsBody (items_of ms k) body in
    let is : body ≡ unwrap_or (slice_get bodies k) (items_of models k) = got ∙ (ap (λ (all : List (List Item)). unwrap_or (slice_get all k) items) same ∙ ap (λ (xs : List Item). unwrap_or (slice_get bodies k) xs) placed) in
    subst Q view (subst P (sym is) (body_is models bodies k are))
