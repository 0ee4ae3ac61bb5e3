-- What a gate of a plan may read, and the outer nets that are driven.
use Rattle.std.specs.Prelude.{◌⊎◌, ℕ, ◌<◌, ◌≤◌, List, [], ◌∷◌, ◌++◌, Option, None, Some}
use Rattle.lists.specs.Lists.{Has}
use Rattle.make_nets.specs.Plan.{Plan}

-- Gates may read the net, where outer nets are numbered below `outer`: it is one of the sources, or an inner net so far.
abbrev pub CanRead : ℕ → List ℕ → Plan → ℕ → Type 0
CanRead outer sources plan n = Has sources n ⊎ ((outer ≤ n) × (n < plan.next))

-- the targets and the net that a gate drives, where it is an outer one
abbrev pub targets_with : List ℕ → Option ℕ → List ℕ
targets_with targets None = targets
targets_with targets (Some n) = targets ++ n ∷ []

-- the given net is an outer one
abbrev pub IsTarget : ℕ → Option ℕ → Type 0
IsTarget outer None = Unit {0}
IsTarget outer (Some n) = n < outer
