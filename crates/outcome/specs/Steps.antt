-- Steps that compute a value or a fault. Source: this project's own.
use Rattle.std.specs.Prelude.{Result, Ok, Err}

-- what a further step makes of a value, where there is one
abbrev pub on_value : {F A B : Type 0} → (A → Result B F) → Result A F → Result B F
on_value further (Ok a) = further a
on_value further (Err e) = Err e

-- what a function makes of a value, where there is one
abbrev pub with_value : {F A B : Type 0} → (A → B) → Result A F → Result B F
with_value f (Ok a) = Ok (f a)
with_value f (Err e) = Err e
