-- What a walk may answer in place of an order. Source: this project's own.
use Rattle.std.specs.Prelude.{ℕ, List}
use Rattle.graph_core.specs.Graph.{Graph}
use Rattle.graph_core.specs.Cycle.{IsCycleOf}
use Rattle.graph_core.specs.declared.fault.CycleFault.{CycleFault}
use Rattle.graph_core.specs.declared.fault.CycleFault.TheVariants.{Cycle, OutOfMemory}

-- the cycle that the walk from these roots finds, or out of memory
abbrev pub IsCycleFault : Graph → List ℕ → CycleFault → Type 0
IsCycleFault graph roots (Cycle points) = IsCycleOf graph roots points.items
IsCycleFault graph roots OutOfMemory = Unit {0}
