-- That there is one at most. Source: this project's own.
use Rattle.std.specs.Prelude.{◌≡◌}

-- any two that have the property are the same
abbrev pub AtMostOne : {A : Type 0} → (A → Type 0) → Type 0
AtMostOne {A} P = (a other : A) → P a → P other → a ≡ other
