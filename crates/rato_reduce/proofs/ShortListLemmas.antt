-- Lists of one and of two items.
use Rattle.std.proofs.Common.{◌≡◌, ℕ, List, [], ◌∷◌, length, map, get_or, refl, sym, ◌∙◌, ap, arith}
use Rattle.std.specs.Prelude.{slice_set}

pub one_item : (xs : List ℕ) → length xs ≡ 1 → xs ≡ get_or xs 0 0 ∷ []
one_item [] one = absurd (omega arith)
one_item (x ∷ []) one = refl
one_item (x ∷ y ∷ ys) one = absurd (omega arith)

pub two_items : (xs : List ℕ) → length xs ≡ 2 → xs ≡ get_or xs 0 0 ∷ get_or xs 1 0 ∷ []
two_items [] two = absurd (omega arith)
two_items (x ∷ []) two = absurd (omega arith)
two_items (x ∷ y ∷ []) two = refl
two_items (x ∷ y ∷ z ∷ zs) two = absurd (omega arith)

-- another one in place of the only one
pub one_put : (xs : List ℕ) (x : ℕ) → length xs ≡ 1 → slice_set xs 0 x ≡ x ∷ []
one_put [] x one = absurd (omega arith)
one_put (y ∷ []) x one = refl
one_put (y ∷ z ∷ zs) x one = absurd (omega arith)

pub one_mapped : (f : ℕ → ℕ) (xs ys : List ℕ) (y : ℕ) → xs ≡ ys → length xs ≡ 1 → y ≡ f (get_or xs 0 0) → y ∷ [] ≡ map f ys
one_mapped f xs ys y same one is = (λ i. is i ∷ []) ∙ ap (map f) (sym (one_item xs one) ∙ same)
