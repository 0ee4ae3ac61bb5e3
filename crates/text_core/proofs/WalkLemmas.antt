-- A machine that goes over tokens from left to right, as long as it may.
use Rattle.std.proofs.Common.{◌≡◌, ◌∙◌, ap, sym, refl, List, [], ◌∷◌, ◌++◌, Option, Some, None}
use Rattle.std.specs.Option.{option_and_then}

-- where tokens lead from a state
abbrev pub walk : {T S : Type 0} → (S → T → Option S) → S → List T → Option S
walk step s [] = Some s
walk step s (t ∷ ts) = option_and_then (λ u. walk step u ts) (step s t)

module _ {T S : Type 0} (step : S → T → Option S) where
  pub walk_append : (s : S) (xs ys : List T) → walk step s (xs ++ ys) ≡ option_and_then (λ u. walk step u ys) (walk step s xs)
  walk_append s [] ys = refl
  walk_append s (x ∷ xs) ys =
      elim (step s x) as (λ (o : Option S). option_and_then (λ u. walk step u (xs ++ ys)) o ≡ option_and_then (λ u. walk step u ys) (option_and_then (λ u. walk step u xs) o)) [
        | None ↦ refl
        | Some u ↦ walk_append u xs ys
      ]

  pub walk_then : (s u : S) (xs ys : List T) → walk step s xs ≡ Some u → walk step s (xs ++ ys) ≡ walk step u ys
  walk_then s u xs ys e = walk_append s xs ys ∙ ap (λ (o : Option S). option_and_then (λ v. walk step v ys) o) e

  -- one token more
  pub walk_on : (s v : S) (t : T) (ys : List T) → step s t ≡ Some v → walk step s (t ∷ ys) ≡ walk step v ys
  walk_on s v t ys e = ap (λ (o : Option S). option_and_then (λ w. walk step w ys) o) e

  -- what leads to the end leads to a place before it
  pub walk_first : (s u : S) (xs ys : List T) → walk step s (xs ++ ys) ≡ Some u → (v : S) × (walk step s xs ≡ Some v)
  walk_first s u xs ys e =
      elim (walk step s xs) as (λ (o : Option S). walk step s xs ≡ o → option_and_then (λ v. walk step v ys) o ≡ Some u → (v : S) × (walk step s xs ≡ Some v)) [
        | None ↦ λ is f. absurd (cc)
        | Some v ↦ λ is f. (v, is)
      ] refl (sym (walk_append s xs ys) ∙ e)
