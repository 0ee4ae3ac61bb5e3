-- What is kept where a closure only tests, and stays as it was.
use Rattle.std.proofs.Common.{◌≡◌, ◌∙◌, subst, Bool, cond, List, [], ◌∷◌}
use Rattle.std.specs.List.{filter}
use Rattle.std.specs.List.Retain.{RetainsInTurn}

pub retained : {X F : Type 0} (R : F → X → Bool → F → X → Type 0) (test : X → Bool) (f : F) → ((x : X) (b : Bool) (g : F) (y : X) → R f x b g y → (b ≡ test x) × (g ≡ f) × (y ≡ x)) → (xs ys : List X) → RetainsInTurn R f xs ys → ys ≡ filter test xs
retained R test f says [] ys is = is
retained R test f says (x ∷ xs) ys (b, g, y, call, zs, rest, is) =
    let said = says x b g y call in
    let later = retained R test f says xs zs (subst (λ h. RetainsInTurn R h xs zs) said.1 rest) in
    is ∙ (λ i. cond (said.0 i) (said.2 i ∷ later i) (later i))
