-- Worked examples, which the check computes.
use Rattle.std.proofs.Common.{◌≡◌, refl, ◌^◌, [], ◌∷◌}
use Rattle.term_expand.specs.SumValue.{factors_of}
use Rattle.compose_polys.specs.Instance.{block_term, point_of}

-- the term 5 A^3 B of a block has three factors: A, A^2 and B
three_factors : factors_of (block_term (record { exponents = 3 ∷ 1 ∷ 0 ∷ 0 ∷ 0 ∷ 0 ∷ 0 ∷ 0 ∷ []; bits = [] }, 5)).1 ≡ (0, 2 ^ 0) ∷ (0, 2 ^ 1) ∷ (1, 2 ^ 0) ∷ []
three_factors = refl

-- a block of two words is read at two elements, and at 0 for the other words
two_words : (point_of (6 ∷ 7 ∷ [])).words ≡ 6 ∷ 7 ∷ 0 ∷ 0 ∷ 0 ∷ 0 ∷ 0 ∷ 0 ∷ []
two_words = refl
