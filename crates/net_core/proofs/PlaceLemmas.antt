-- Names that are found by their hashes.
use Rattle.std.proofs.Common.{◌≡◌, ◌∙◌, ap, sym, refl, ℕ, zero, suc, ◌<◌, ◌+◌, List, [], ◌∷◌, ◌++◌, length, Bool, true, false, cond, Option, None, Some, arith}
use Rattle.std.specs.Str.{bytes_eq}
use Rattle.std.proofs.lemmas.Slice.Eq.{bytes_eq-Decides}
use Rattle.net_core.specs.NetList.{NetList, LabelValue, number_from, is_named}
use Rattle.net_core.specs.Inside.{IsInside}
use Rattle.net_core.specs.private.Placed.{AreFound, has_name_at}
use Rattle.net_core.proofs.NameLemmas.{number_not}

-- the named nets of a net list that fits are found
pub found_inside : (net : NetList) → IsInside net → AreFound net.labels
found_inside net inside = λ n label got named. (inside.names n label got named).1

-- the first net that has the name
pub first_at : (n : ℕ) (labels : List LabelValue) (name : List ℕ) (i : ℕ) → has_name_at labels i name ≡ true → ((k : ℕ) → k < i → has_name_at labels k name ≡ true → ⊥) → number_from n labels name ≡ Some (n + i)
first_at n [] name i hit misses = absurd (cc)
first_at n (x ∷ xs) name zero hit misses = let here : is_named name x ≡ true = hit in rw here (ap Some (omega arith))
first_at n (x ∷ xs) name (suc i) hit misses =
    elim (is_named name x) as (λ b. is_named name x ≡ b → cond b (Some n) (number_from (n + 1) xs name) ≡ Some (n + suc i)) [
      | true ↦ λ e. absurd (misses 0 (omega arith) e)
      | false ↦ λ e. first_at (n + 1) xs name i hit (λ k less. misses (suc k) (omega arith)) ∙ ap Some (omega arith)
    ] refl

-- no net has the name
pub none_at : (n : ℕ) (labels : List LabelValue) (name : List ℕ) → ((k : ℕ) → k < length labels → has_name_at labels k name ≡ true → ⊥) → number_from n labels name ≡ None
none_at n [] name misses = refl
none_at n (x ∷ xs) name misses =
    elim (is_named name x) as (λ b. is_named name x ≡ b → cond b (Some n) (number_from (n + 1) xs name) ≡ None) [
      | true ↦ λ e. absurd (misses 0 (omega arith) e)
      | false ↦ λ e. none_at (n + 1) xs name (λ k less. misses (suc k) (omega arith))
    ] refl

-- a name whose hash is no key is not the text, whose hash is one
other_name : (hash : List ℕ → ℕ) (keys : ℕ → Option ℕ) (text name : List ℕ) (b : Bool) → bytes_eq name text ≡ b → (keys (hash text) ≡ None → ⊥) → keys (hash name) ≡ None → b ≡ false
other_name hash keys text name false e has none = refl
other_name hash keys text name true e has none =
    let same : name ≡ text = (bytes_eq-Decides name text).0 e in
    absurd (has (ap (λ (t : List ℕ). keys (hash t)) (sym same) ∙ none))

-- one more name, whose hash is among the keys
pub placed_more : (hash : List ℕ → ℕ) (keys : ℕ → Option ℕ) (labels new : List LabelValue) (text : List ℕ) → new ≡ labels ++ record { text = text; named = true } ∷ [] → (keys (hash text) ≡ None → ⊥)
    → ((name : List ℕ) → keys (hash name) ≡ None → number_from 0 labels name ≡ None) → (name : List ℕ) → keys (hash name) ≡ None → number_from 0 new name ≡ None
placed_more hash keys labels new text is has placed name none =
    let not : is_named name (record { text = text; named = true }) ≡ false = other_name hash keys text name (bytes_eq name text) refl has none in
    rw is (number_not 0 labels (record { text = text; named = true }) name not ∙ placed name none)
