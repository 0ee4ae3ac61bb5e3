-- The items of a list that are kept, one after another.
use Rattle.std.proofs.Common.{◌≡◌, ◌∙◌, ap, sym, ℕ, zero, suc, ◌<◌, ◌≤◌, ◌+◌, Bool, true, false, cond, List, [], ◌∷◌, ◌++◌, length, drop, get_or, append_assoc, append-nil, refl, arith}
use Rattle.std.specs.Prelude.{if◌then◌else◌}
use Rattle.std.specs.List.{filter}
use Rattle.std.proofs.Math.ListN.{drop_of_length-le}
use Rattle.lists.specs.laws.TakeLaws.{drop_read}

-- one item further
pub kept_more : {X : Type 0} (p : X → Bool) (xs acc new : List X) (i : ℕ) (x : X) (keep : Bool) → i < length xs → x ≡ get_or xs i x → keep ≡ p x → new ≡ acc ++ (if keep then x ∷ [] else [])
    → acc ++ filter p (drop i xs) ≡ filter p xs → new ++ filter p (drop (i + 1) xs) ≡ filter p xs
kept_more {X} p xs acc new i x keep less read is more before =
    let rest : List X = filter p (drop (i + 1) xs) in
    let added : new ≡ acc ++ (if p x then x ∷ [] else []) = more ∙ ap (λ b. acc ++ (if b then x ∷ [] else [])) is in
    let step : (acc ++ (if p x then x ∷ [] else [])) ++ rest ≡ acc ++ filter p (x ∷ drop (i + 1) xs) =
    elim (p x) as (λ b. (acc ++ (if b then x ∷ [] else [])) ++ rest ≡ acc ++ cond b (x ∷ rest) rest) [
      | true ↦ append_assoc acc (x ∷ []) rest
      | false ↦ ap (λ ys. ys ++ rest) (append-nil acc)
    ] in
    ap (λ ys. ys ++ rest) added ∙ (step ∙ (ap (λ ys. acc ++ filter p ys) (sym (drop_read xs i x less read)) ∙ before))

got : (xs : List ℕ) (i : ℕ) → i < length xs → get_or xs i 0 ≡ get_or xs i (get_or xs i 0)
got [] i less = absurd (omega arith)
got (x ∷ xs) zero less = refl
got (x ∷ xs) (suc i) less = got xs i (omega arith)

-- the same of numbers
pub kept_at : (p : ℕ → Bool) (xs acc new : List ℕ) (i : ℕ) (keep : Bool) → i < length xs → keep ≡ p (get_or xs i 0) → new ≡ acc ++ (if keep then get_or xs i 0 ∷ [] else [])
    → acc ++ filter p (drop i xs) ≡ filter p xs → new ++ filter p (drop (i + 1) xs) ≡ filter p xs
kept_at p xs acc new i keep less is more before = kept_more p xs acc new i (get_or xs i 0) keep less (got xs i less) is more before

-- none is left
pub kept_all : {X : Type 0} (p : X → Bool) (xs acc : List X) (i : ℕ) → length xs ≤ i → acc ++ filter p (drop i xs) ≡ filter p xs → acc ≡ filter p xs
kept_all p xs acc i most before = sym (append-nil acc) ∙ (ap (λ ys. acc ++ filter p ys) (sym (drop_of_length-le xs most)) ∙ before)
