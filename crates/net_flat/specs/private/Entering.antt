-- A walker that went into an instance. Source: this project's own.
use Rattle.std.specs.Prelude.{◌≡◌, ℕ, ◌∷◌, List, Ok}
use Rattle.net_blif.specs.Statement.{Token}
use Rattle.net_flat.specs.declared.scope.Scope.{Scope}
use Rattle.net_flat.specs.Steps.{Enter, actual_steps}
use Rattle.net_flat.specs.private.LocalScope.{local_in}
use Rattle.net_flat.specs.private.LocalWalk.{entered, local_walked, state_with, AreInside, State}

-- what is connected was mentioned, then the instance was entered; the scope before it waits
pub record HasEntered (old : State) (number : ℕ) (connections : List Token) (outer : Scope) (new : State) : Type 0 where
  pub mentioned : local_walked old (Enter ∷ actual_steps connections) ≡ Ok (state_with new.net new.instances (local_in outer))
  pub inside : AreInside (state_with new.net new.instances (local_in outer))
  pub went : new ≡ entered (state_with new.net new.instances (local_in outer)) number connections

-- what is connected was mentioned, where the instance has no body to enter
abbrev pub HasMentioned : State → List Token → State → Type 0
HasMentioned old connections new = local_walked old (Enter ∷ actual_steps connections) ≡ Ok new
