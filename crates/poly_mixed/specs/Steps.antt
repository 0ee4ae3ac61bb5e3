-- The steps that a recorder tells. Source: this project's own.
use Rattle.std.specs.Prelude.{◌≡◌, List, ◌++◌, Option, None, Some}
use Rattle.poly_mixed.specs.Polynomial.{Terms}
use Rattle.poly_mixed.specs.declared.steps.Generator.{Generator}

-- a generator and the terms of its multiplier
abbrev pub Step : Type 0
Step = Generator × Terms

-- what a recorder tells after these steps, where it tells its steps
abbrev pub Tells : Option (List Step) → Option (List Step) → List Step → Type 0
Tells None new steps = Unit {0}
Tells (Some before) new steps = new ≡ Some (before ++ steps)
