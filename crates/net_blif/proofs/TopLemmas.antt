-- Instances of the top have models.
use Rattle.std.proofs.Common.{◌≡◌, refl, subst, ℕ, zero, suc, Bool, true, false, cond, List, [], ◌∷◌, Option, None, Some, Ok}
use Rattle.std.specs.Prelude.{filter, slice_get}
use Rattle.net_blif.specs.Design.{ModelValue, items_of, model_named}
use Rattle.net_blif.specs.Instances.{first_found, instance_fault, instances_fault, model_fault, or_else, refused}
use Rattle.net_blif.specs.Models.{AreRight}
use Rattle.net_blif.specs.Top.{instances_of, is_instance, model_in}
use Rattle.net_blif.specs.declared.item.Item.{Item}
use Rattle.net_blif.specs.declared.item.Item.TheVariants.{Inputs, Outputs, Gate, Latch, Instance}
use Rattle.net_blif.specs.declared.fault.BlifFault.{BlifFault}

both_none : {F : Type 0} (a b : Option F) → or_else a b ≡ None → (a ≡ None) × (b ≡ None)
both_none None b e = (refl, e)
both_none (Some f) b e = absurd (cc)

not_refused : (o : Option BlifFault) → Ok tt ≡ refused o → o ≡ None
not_refused None e = refl
not_refused (Some f) e = absurd (cc)

-- an instance among lines with which nothing is wrong
right_instance : (find : Item → Option BlifFault) (xs : List Item) (i : ℕ) (x : Item) → first_found find xs ≡ None → slice_get (filter is_instance xs) i ≡ Some x → (find x ≡ None) × (is_instance x ≡ true)
right_instance find [] i x none at = absurd (cc)
right_instance find (y ∷ ys) i x none at = by (λ j there. right_instance find ys j x split.1 there) (is_instance y) refl i at
  where
    split : (find y ≡ None) × (first_found find ys ≡ None)
    split = both_none (find y) (first_found find ys) none

    by : ((j : ℕ) → slice_get (filter is_instance ys) j ≡ Some x → (find x ≡ None) × (is_instance x ≡ true)) → (b : Bool) → is_instance y ≡ b → (i : ℕ) → slice_get (cond b (y ∷ filter is_instance ys) (filter is_instance ys)) i ≡ Some x → (find x ≡ None) × (is_instance x ≡ true)
    by rest true is zero e = let same : y ≡ x = cc in let P : Item → Type 0 = λ z. (find z ≡ None) × (is_instance z ≡ true) in subst P same (split.0, is)
    by rest true is (suc i) e = rest i e
    by rest false is i e = rest i e

named : (models : List ModelValue) (x : Item) → instance_fault models x ≡ None → is_instance x ≡ true → (k : ℕ) × (model_named models (model_in x) ≡ Some k)
named models (Inputs nets) none is = absurd (cc)
named models (Outputs nets) none is = absurd (cc)
named models (Gate line inputs out table) none is = absurd (cc)
named models (Latch line next out start) none is = absurd (cc)
named models (Instance line name connections) none is = by (model_named models name) refl none
  where
    by : (o : Option ℕ) → model_named models name ≡ o → model_fault models line o connections ≡ None → (k : ℕ) × (model_named models name ≡ Some k)
    by None e f = absurd (cc)
    by (Some k) e f = (k, e)

top_right : (models : List ModelValue) → instances_fault models ≡ None → first_found (instance_fault models) (items_of models 0) ≡ None
top_right [] none = refl
top_right (m ∷ ms) none = (both_none (first_found (instance_fault (m ∷ ms)) m.items) _ none).0

-- where models are right, an instance of the top has a model
pub some_named : (models : List ModelValue) (i : ℕ) (x : Item) → AreRight models (Ok tt) → slice_get (instances_of models) i ≡ Some x → (k : ℕ) × (model_named models (model_in x) ≡ Some k)
some_named models i x right at =
    let h = right_instance (instance_fault models) (items_of models 0) i x (top_right models (not_refused (instances_fault models) right.1)) at in
    named models x h.0 h.1
