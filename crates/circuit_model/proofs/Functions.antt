-- Relations of inputs and elements that are functions.
use Rattle.std.specs.Prelude.{◌≡◌, ℕ, List}

-- the relation is a function of inputs: at each one element at most
abbrev pub IsFunction : (List ℕ → ℕ → Type 0) → Type 0
IsFunction f = (xs : List ℕ) (e other : ℕ) → f xs e → f xs other → e ≡ other
