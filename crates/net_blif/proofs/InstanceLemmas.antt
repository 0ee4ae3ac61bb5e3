-- Instances checked one after another.
use Rattle.std.proofs.Common.{◌≡◌, ◌∙◌, inl, inr, ap, sym, subst, ℕ, suc, ◌<◌, ◌+◌, true, false, cond, List, [], ◌∷◌, ◌++◌, map, length, take, drop, get_or, Option, None, Some, arith}
use Rattle.std.specs.Prelude.{slice_get}
use Rattle.std.specs.Option.{option_map_or}
use Rattle.std.proofs.lemmas.List.{get_or-map, length-map, map_push}
use Rattle.std.proofs.lemmas.Option.{get_or_from_slice_get}
use Rattle.std.proofs.Math.Seq.{take-suc}
use Rattle.lists.specs.laws.ReadLaws.{get_below as some_at}
use Rattle.net_blif.specs.Statement.{Token}
use Rattle.net_blif.specs.Design.{ModelValue, items_of, model_named}
use Rattle.net_blif.specs.Table.{no_numbers, Numbers}
use Rattle.net_blif.specs.Instances.{first_found, instance_fault, model_fault, or_else}
use Rattle.net_blif.specs.private.Connecting.{after, collected, connect, fault_by, has_all, missing, table_fault, FormalsValue, IsFault}
use Rattle.net_blif.specs.declared.item.Item.{Item}
use Rattle.net_blif.specs.declared.item.Item.TheVariants.{Instance}
use Rattle.net_blif.specs.declared.fault.BlifFault.{BlifFault}
use Rattle.net_blif.specs.declared.fault.BlifFault.TheVariants.{NoSuchModel, FormalMissing}
use Rattle.net_blif.proofs.StepLemmas.{fault_got, got_later}
use Rattle.net_blif.proofs.FormalLemmas.{fault_is}

-- a model, and what it places
pub model_got : (models : List ModelValue) (k : ℕ) → k < length models → (m : ModelValue) × (Some m ≡ slice_get models k) × (items_of models k ≡ m.items)
model_got models k below = let m = some_at models k below in (m.0, sym m.1, ap (λ (o : Option ModelValue). option_map_or (λ (m : ModelValue). m.items) o []) m.1)

-- what is wrong with the lines of a model
abbrev fault_in : List ModelValue → ModelValue → Option BlifFault
fault_in models m = first_found (instance_fault models) m.items

module _ (models : List ModelValue) (k : ℕ) (items : List Item) (whole : Option BlifFault) (below : k < length models) (is : items ≡ items_of models k) (so_far : whole ≡ first_found (λ (m : ModelValue). first_found (instance_fault models) m.items) (drop k models)) where
  pub models_later : first_found (instance_fault models) items ≡ None → whole ≡ first_found (λ (m : ModelValue). first_found (instance_fault models) m.items) (drop (k + 1) models)
  models_later none = let m = model_got models k below in got_later (fault_in models) models k m.0 whole m.1 so_far (ap (first_found (instance_fault models)) (sym (is ∙ m.2)) ∙ none)

  pub models_fault : (fault : BlifFault) → IsFault (first_found (instance_fault models) items) fault → IsFault whole fault
  models_fault fault found =
      let m = model_got models k below in
      let P : List Item → Type 0 = λ xs. IsFault (first_found (instance_fault models) xs) fault in
      fault_got (fault_in models) models k m.0 whole fault m.1 so_far (subst P (is ∙ m.2) found)

-- what is made of one model more
pub made_more : {F : Type 0} (make : List Item → F) (models : List ModelValue) (k : ℕ) (items : List Item) (made : F) (old new : List F) → k < length models → items ≡ items_of models k → made ≡ make items → old ≡ map (λ (m : ModelValue). make m.items) (take k models) → new ≡ old ++ made ∷ [] → new ≡ map (λ (m : ModelValue). make m.items) (take (k + 1) models)
made_more {F = F} make models k items made old new below is same was pushed =
    let m = model_got models k below in
    let at : get_or models k m.0 ≡ m.0 = get_or_from_slice_get models k m.0 m.0 (sym m.1) in
    let one : k + 1 ≡ suc k = omega arith in
    let whole : take (k + 1) models ≡ take k models ++ m.0 ∷ [] = rw one (take-suc models k m.0 below ∙ ap (λ (x : ModelValue). take k models ++ x ∷ []) at) in
    pushed ∙ (ap (λ (o : List F). o ++ made ∷ []) was ∙ (ap (λ (f : F). map (λ (m : ModelValue). make m.items) (take k models) ++ f ∷ []) (same ∙ ap make (is ∙ m.2)) ∙ (sym (map_push (λ (m : ModelValue). make m.items) (take k models) m.0) ∙ ap (λ (ms : List ModelValue). map (λ (m : ModelValue). make m.items) ms) (sym whole))))

-- the formals of a model
pub formals_got : {A : Type 0} (view : A → FormalsValue) (models : List ModelValue) (all : List A) (k : ℕ) (formals : A) → map view all ≡ map (λ (m : ModelValue). collected m.items) models → k < length models → formals ≡ get_or all k formals → view formals ≡ collected (items_of models k)
formals_got view models all k formals are below at =
    let m = model_got models k below in
    let long : length all ≡ length models = sym (length-map all view) ∙ (ap length are ∙ length-map models (λ (m : ModelValue). collected m.items)) in
    let inside : k < length all = omega (arith, long, below) in
    let one : get_or models k m.0 ≡ m.0 = get_or_from_slice_get models k m.0 m.0 (sym m.1) in
    ap view at ∙ (sym (get_or-map view all k formals (view formals) inside) ∙ (ap (λ (xs : List FormalsValue). get_or xs k (view formals)) are ∙ (get_or-map (λ (m : ModelValue). collected m.items) models k m.0 (view formals) below ∙ (ap (λ (m : ModelValue). collected m.items) one ∙ ap collected (sym m.2)))))

-- an instance of a model that there is
pub known_fault : (models : List ModelValue) (line k : ℕ) (name : Token) (connections : List Token) (formals : FormalsValue) → model_named models name ≡ Some k → formals ≡ collected (items_of models k) → fault_by line formals connections ≡ instance_fault models (Instance line name connections)
known_fault models line k name connections formals named are =
    ap (λ (f : FormalsValue). fault_by line f connections) are ∙ (fault_is line (items_of models k) connections ∙ sym (ap (λ (o : Option ℕ). model_fault models line o connections) named))

pub unknown_fault : (models : List ModelValue) (line : ℕ) (name : Token) (connections : List Token) → model_named models name ≡ None → instance_fault models (Instance line name connections) ≡ Some (NoSuchModel line)
unknown_fault models line name connections none = ap (λ (o : Option ℕ). model_fault models line o connections) none

-- the connections of an instance
module _ (line : ℕ) (formals : FormalsValue) (names start connected : Numbers) (connections : List Token) (are : names ≡ formals.names) (none : start ≡ no_numbers) where
  tables : table_fault line names start connections ≡ table_fault line formals.names no_numbers connections
  tables = ap (λ (f : Numbers). table_fault line f start connections) are ∙ ap (λ (c : Numbers). table_fault line formals.names c connections) none

  pub wrong_connection : (fault : BlifFault) → IsFault (table_fault line names start connections) fault → IsFault (fault_by line formals connections) fault
  wrong_connection fault (inl wanting) = inl wanting
  wrong_connection fault (inr some) = inr (ap (λ (o : Option BlifFault). or_else o (missing line (after connect no_numbers connections) formals.inputs)) (sym tables ∙ some))

  module _ (right : table_fault line names start connections ≡ None) (is : connected ≡ after connect start connections) where
    whole : fault_by line formals connections ≡ missing line connected formals.inputs
    whole =
        ap (λ (o : Option BlifFault). or_else o (missing line (after connect no_numbers connections) formals.inputs)) (sym tables ∙ right)
        ∙ ap (λ (c : Numbers). missing line c formals.inputs) (sym (is ∙ ap (λ (s : Numbers). after connect s connections) none))

    pub all_connected : has_all connected formals.inputs ≡ true → fault_by line formals connections ≡ None
    all_connected has = whole ∙ ap (λ b. cond b None (Some (FormalMissing line))) has

    pub one_missing : has_all connected formals.inputs ≡ false → fault_by line formals connections ≡ Some (FormalMissing line)
    one_missing lacks = whole ∙ ap (λ b. cond b None (Some (FormalMissing line))) lacks
