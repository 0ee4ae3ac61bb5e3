-- Rows of a graph. Source: this project's own.
use Rattle.std.specs.Prelude.{ℕ, List, [], ◌∷◌}
use Rattle.compose_model.specs.declared.feeder.Feeder.{Feeder}
use Rattle.compose_model.specs.declared.feeder.Feeder.TheVariants.{InputWord, OutputOf}

-- the instance that a feed is, if it is one
abbrev pub instance_of : Feeder → List ℕ
instance_of (InputWord w) = []
instance_of (OutputOf i) = i ∷ []
