-- What a step made came of a value.
use Rattle.std.proofs.Common.{◌≡◌, refl, Result, Ok, Err}
use Rattle.outcome.specs.Steps.{with_value}

pub with_value_ok : {F A B : Type 0} (f : A → B) (r : Result A F) (b : B) → ◌≡◌ {A = Result B F} (Ok b) (with_value f r) → (a : A) × (◌≡◌ {A = Result A F} (Ok a) r) × (b ≡ f a)
with_value_ok f (Ok a) b ok = (a, refl, cc)
with_value_ok f (Err e) b ok = absurd (cc)
