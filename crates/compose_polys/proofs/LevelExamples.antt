-- A worked example, which the check computes.
use Rattle.std.proofs.Common.{◌≡◌, refl, [], ◌∷◌}
use Rattle.compose_polys.specs.LevelOrder.{first_numbers, level_over}

-- a point that leads to points of the levels 1 and 3 has level 4, and one that leads nowhere has level 1
four : level_over (1 ∷ 3 ∷ []) (0 ∷ 1 ∷ []) ≡ 4
four = refl

one : level_over (1 ∷ 3 ∷ []) [] ≡ 1
one = refl

three_numbers : first_numbers 3 ≡ 0 ∷ 1 ∷ 2 ∷ []
three_numbers = refl
