-- Steps that have an outcome, one after another.
use Rattle.std.proofs.Common.{refl, inl, inr, Result, Ok, Err}
use Rattle.outcome.specs.Outcome.{Outcome, ◌>>=◌, Exactly, Returns, Within}

-- a step and then another, which has an outcome after each value that may come of the first
module _ {F A B : Type 0} (first : Outcome F A) (second : A → Outcome F B) where
  after_value : (a : A) → first (Ok a) → (outcome : Result B F) → second a outcome → (outcome : Result B F) × (first >>= second) outcome
  after_value a may (Ok b) is = (Ok b, (a, may, is))
  after_value a may (Err e) is = (Err e, inr (a, may, is))

  after : (outcome : Result A F) → first outcome → ((a : A) → first (Ok a) → (outcome : Result B F) × second a outcome) → (outcome : Result B F) × (first >>= second) outcome
  after (Ok a) may two = let more = two a may in after_value a may more.0 more.1
  after (Err e) may two = (Err e, inl may)

  pub some_bind : ((outcome : Result A F) × first outcome) → ((a : A) → first (Ok a) → (outcome : Result B F) × second a outcome) → (outcome : Result B F) × (first >>= second) outcome
  some_bind one two = after one.0 one.1 two

pub some_returns : {F A : Type 0} (answer : Result A F) → (outcome : Result A F) × Returns answer outcome
some_returns answer = (answer, refl)

pub some_exactly : {F A : Type 0} (value : A) → (outcome : Result A F) × Exactly value outcome
some_exactly value = (Ok value, refl)

-- the faults of one part as those of another
module _ {F G A : Type 0} (wrap : F → G) (may : Outcome F A) where
  wrapped : (outcome : Result A F) → may outcome → (outcome : Result A G) × Within wrap may outcome
  wrapped (Ok a) is = (Ok a, is)
  wrapped (Err f) is = (Err (wrap f), (f, is, refl))

  pub some_within : ((outcome : Result A F) × may outcome) → (outcome : Result A G) × Within wrap may outcome
  some_within some = wrapped some.0 some.1
