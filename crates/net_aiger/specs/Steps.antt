-- One step after another, of which the first fault counts. Source: this project's own.
use Rattle.std.specs.Prelude.{Result, Ok, Err}

-- what a further step makes of a value, where there is one
infixl 10 ◌>>=◌
abbrev pub ◌>>=◌ : {F A B : Type 0} → Result A F → (A → Result B F) → Result B F
◌>>=◌ (Ok a) further = further a
◌>>=◌ (Err e) further = Err e
