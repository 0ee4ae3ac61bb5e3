-- The pairs that a recorder holds after the replacement of words. Source: this project's own.
use Rattle.std.specs.Prelude.{List, Option}
use Rattle.poly_mixed.specs.Steps.{Step, Tells}
use Rattle.circuit_model.specs.Circuit.{Circuit}
use Rattle.stage_model.specs.WordSteps.{AreWordSteps}

-- where the recorder tells its pairs, it holds what it held and then those of all words
pub record IsRecorded (circuit : Circuit) (old new : Option (List Step)) : Type 0 where
  pub steps : List Step
  pub are : AreWordSteps circuit steps
  pub told : Tells old new steps
