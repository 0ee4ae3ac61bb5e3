-- What comes of a top whose instances have their blocks. Source: this project's own.
use Rattle.std.specs.Prelude.{ℕ}
use Rattle.outcome.specs.Outcome.{Outcome, ◌>>=◌, Within}
use Rattle.poly_mixed.specs.Polynomial.{Terms}
use Rattle.compose_model.specs.Hierarchy.{Hierarchy}
use Rattle.block_compose.specs.Composed.{fault_of_wiring, HasNoCycle, StagesOf, WiringOf}
use Rattle.block_compose.specs.declared.fault.ComposeFault.{ComposeFault}

-- what comes of it: first its wiring, then whether instances feed each other in a cycle, and then the stages
abbrev pub ComposesPlanned : ℕ → (ℕ → ℕ → ℕ) → Hierarchy → ℕ → Outcome ComposeFault Terms
ComposesPlanned k mul h bound = do
  wiring ← Within fault_of_wiring (WiringOf h)
  acyclic ← HasNoCycle wiring.0
  StagesOf k mul h wiring.0 bound
