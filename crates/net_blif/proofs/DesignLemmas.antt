-- Numbers of models, after one more model.
use Rattle.std.proofs.Common.{◌≡◌, ◌∙◌, ap, sym, refl, ℕ, suc, ◌+◌, List, [], ◌∷◌, ◌++◌, length, Bool, true, false, cond, Option, None, Some, arith}
use Rattle.std.specs.Prelude.{is_some}
use Rattle.std.specs.Str.{bytes_eq}
use Rattle.std.proofs.lemmas.Slice.Eq.{bytes_eq-Decides}
use Rattle.net_blif.specs.Statement.{Token}
use Rattle.net_blif.specs.Design.{ModelValue, model_from}

from_other : (n : ℕ) (models : List ModelValue) (model : ModelValue) (name : Token) → bytes_eq name model.name ≡ false → model_from n (models ++ model ∷ []) name ≡ model_from n models name
from_other n [] model name other = rw other refl
from_other n (x ∷ xs) model name other = ap (cond (bytes_eq name x.name) (Some n)) (from_other (n + 1) xs model name other)

from_new : (n : ℕ) (models : List ModelValue) (model : ModelValue) (name : Token) → model_from n models name ≡ None → bytes_eq name model.name ≡ true → model_from n (models ++ model ∷ []) name ≡ Some (n + length models)
from_new n [] model name none hit = rw hit (ap Some (omega arith))
from_new n (x ∷ xs) model name none hit =
    elim (bytes_eq name x.name) as (λ b. cond b (Some n) (model_from (n + 1) xs name) ≡ None → cond b (Some n) (model_from (n + 1) (xs ++ model ∷ []) name) ≡ Some (n + suc (length xs))) [
      | true ↦ λ e. absurd (cc)
      | false ↦ λ e. from_new (n + 1) xs model name e hit ∙ ap Some (omega arith)
    ] none

from_kept : (n : ℕ) (models : List ModelValue) (model : ModelValue) (name : Token) (k : ℕ) → model_from n models name ≡ Some k → model_from n (models ++ model ∷ []) name ≡ model_from n models name
from_kept n [] model name k found = absurd (cc)
from_kept n (x ∷ xs) model name k found =
    elim (bytes_eq name x.name) as (λ b. cond b (Some n) (model_from (n + 1) xs name) ≡ Some k → cond b (Some n) (model_from (n + 1) (xs ++ model ∷ []) name) ≡ cond b (Some n) (model_from (n + 1) xs name)) [
      | true ↦ λ e. refl
      | false ↦ λ e. from_kept (n + 1) xs model name k e
    ] found

swapped : (a b : Token) → bytes_eq a b ≡ false → bytes_eq b a ≡ false
swapped a b not = by (bytes_eq b a) refl
  where
    by : (v : Bool) → bytes_eq b a ≡ v → v ≡ false
    by true e = let same : b ≡ a = (bytes_eq-Decides b a).0 e in let hit : bytes_eq a b ≡ true = rw same ((bytes_eq-Decides a a).1 refl) in absurd (cc)
    by false e = refl

-- the numbers with one more for the name, unless it has one, are those of the models with one more of this name
pub numbers_push : (models : List ModelValue) (model : ModelValue) (q : Token) (number : ℕ) → number ≡ length models → cond (is_some (model_from 0 models model.name)) (model_from 0 models q) (cond (bytes_eq model.name q) (Some number) (model_from 0 models q)) ≡ model_from 0 (models ++ model ∷ []) q
numbers_push models model q number is =
    elim (model_from 0 models model.name) as (λ found. model_from 0 models model.name ≡ found → cond (is_some found) (model_from 0 models q) (cond (bytes_eq model.name q) (Some number) (model_from 0 models q)) ≡ model_from 0 (models ++ model ∷ []) q) [
      | Some k ↦ λ e. sym (has k e (bytes_eq model.name q) refl)
      | None ↦ λ e. lacks e (bytes_eq model.name q) refl
    ] refl
  where
    has : (k : ℕ) → model_from 0 models model.name ≡ Some k → (b : Bool) → bytes_eq model.name q ≡ b → model_from 0 (models ++ model ∷ []) q ≡ model_from 0 models q
    has k e true same = let equal : model.name ≡ q = (bytes_eq-Decides model.name q).0 same in from_kept 0 models model q k (rw (← equal) e)
    has k e false other = from_other 0 models model q (swapped model.name q other)

    lacks : model_from 0 models model.name ≡ None → (b : Bool) → bytes_eq model.name q ≡ b → cond b (Some number) (model_from 0 models q) ≡ model_from 0 (models ++ model ∷ []) q
    lacks e true same =
        let equal : model.name ≡ q = (bytes_eq-Decides model.name q).0 same in
        ap Some is ∙ sym (from_new 0 models model q (rw (← equal) e) (rw (← equal) ((bytes_eq-Decides model.name model.name).1 refl)) ∙ ap Some (omega arith))
    lacks e false other = sym (from_other 0 models model q (swapped model.name q other))

-- the same, where `before` and `after` are what two maps have
pub numbered : (models new : List ModelValue) (model : ModelValue) (q : Token) (number : ℕ) (before after : Token → Option ℕ) → number ≡ length models → new ≡ models ++ model ∷ [] → ((name : Token) → before name ≡ model_from 0 models name) → after q ≡ cond (is_some (before model.name)) (before q) (cond (bytes_eq model.name q) (Some number) (before q)) → after q ≡ model_from 0 new q
numbered models new model q number before after is pushed same step =
    rw pushed (step ∙ (rw (same model.name, same q) refl ∙ numbers_push models model q number is))
