-- Two ranks, which may be one.
use Rattle.std.proofs.Common.{◌≡◌, ℕ, ◌<◌, ◌≤◌, ◌==◌, cond, [], ◌∷◌, ◌∙◌, ap, arith}
use Rattle.std.proofs.lemmas.Bool.{eq-eqb, lt-ltb, le-ltb, ne_eqb}
use Rattle.poly_mixed.specs.Product.{with_rank}

pub pair_before : (first second : ℕ) → second < first → with_rank (first ∷ []) second ≡ second ∷ first ∷ []
pair_before first second less = ap (λ b. cond b (second ∷ first ∷ []) (cond (second == first) (first ∷ []) (first ∷ second ∷ []))) (lt-ltb second first less)

pub pair_same : (first second : ℕ) → second ≡ first → with_rank (first ∷ []) second ≡ first ∷ []
pair_same first second same =
    ap (λ b. cond b (second ∷ first ∷ []) (cond (second == first) (first ∷ []) (first ∷ second ∷ []))) (le-ltb second first (omega (arith, same)))
    ∙ ap (λ b. cond b (first ∷ []) (first ∷ second ∷ [])) (eq-eqb second first same)

pub pair_behind : (first second : ℕ) → first ≤ second → (second ≡ first → ⊥) → with_rank (first ∷ []) second ≡ first ∷ second ∷ []
pair_behind first second less other =
    ap (λ b. cond b (second ∷ first ∷ []) (cond (second == first) (first ∷ []) (first ∷ second ∷ []))) (le-ltb second first less)
    ∙ ap (λ b. cond b (first ∷ []) (first ∷ second ∷ [])) (ne_eqb second first other)
