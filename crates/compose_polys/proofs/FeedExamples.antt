-- A worked example, which the check computes.
use Rattle.std.proofs.Common.{◌≡◌, refl, [], ◌∷◌, map}
use Rattle.poly_mixed.specs.Polynomial.{Terms}
use Rattle.compose_model.specs.declared.feeder.Feeder.TheVariants.{InputWord, OutputOf}
use Rattle.compose_polys.specs.Words.{feed_terms}

module _ (a b z : Terms) where
  -- an instance that is fed by the second word and by the first instance
  two_feeds : map (feed_terms (a ∷ b ∷ []) (z ∷ [])) (InputWord 1 ∷ OutputOf 0 ∷ []) ≡ b ∷ z ∷ []
  two_feeds = refl
