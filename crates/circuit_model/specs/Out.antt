-- The output of a circuit at an input. Source: this project's own.
use Rattle.std.specs.Prelude.{◌≡◌, ℕ, Bool, List, Some, slice_get}
use Rattle.circuit_model.specs.Word.{HasElement}
use Rattle.circuit_model.specs.Circuit.{Circuit}
use Rattle.circuit_model.specs.Run.{IsRun}

-- e is the output word's element in the last cycle of these lists of bits
pub record Ends (circuit : Circuit) (run : List (List Bool)) (e : ℕ) : Type 0 where
  pub last : List Bool
  pub at : slice_get run circuit.cycles ≡ Some last
  pub element : HasElement last circuit.output e

-- e is the output word's element in the last cycle of a run at the input
pub record IsOut (circuit : Circuit) (xs : List ℕ) (e : ℕ) : Type 0 where
  pub run : List (List Bool)
  pub is_run : IsRun circuit xs run
  pub ends : Ends circuit run e
