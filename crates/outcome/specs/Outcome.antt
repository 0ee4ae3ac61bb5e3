-- What may come of a step that gives a value or refuses with a fault, and the order of refusals.
-- Source: this project's own.
use Rattle.std.specs.Prelude.{◌≡◌, ◌⊎◌, Option, None, Some, Result, Ok, Err}

-- which values and which faults may come
abbrev pub Outcome : Type 0 → Type 0 → Type 1
Outcome F A = Result A F → Type 0

-- the first step, and then the second on its value, where it has one: so the first fault counts
infixl 10 ◌>>=◌
abbrev pub ◌>>=◌ : {F A B : Type 0} → Outcome F A → (A → Outcome F B) → Outcome F B
◌>>=◌ {A = A} first second (Ok b) = (a : A) × first (Ok a) × second a (Ok b)
◌>>=◌ {A = A} first second (Err e) = first (Err e) ⊎ ((a : A) × first (Ok a) × second a (Err e))

-- this value and no fault
abbrev pub Exactly : {F A : Type 0} → A → Outcome F A
Exactly value (Ok found) = found ≡ value
Exactly value (Err fault) = ⊥

-- the faults of one part as those of another
abbrev pub Within : {F G A : Type 0} → (F → G) → Outcome F A → Outcome G A
Within wrap outcome (Ok a) = outcome (Ok a)
Within {F} wrap outcome (Err g) = (f : F) × outcome (Err f) × (g ≡ wrap f)

-- what a function answers
abbrev pub Returns : {F A : Type 0} → Result A F → Outcome F A
Returns answer outcome = outcome ≡ answer

-- at most one outcome may come
abbrev pub Determined : {F A : Type 0} → Outcome F A → Type 0
Determined {F} {A} may = (x y : Result A F) → may x → may y → x ≡ y

-- a refusal, where there is one, is one that may come
abbrev pub MayRefuse : {F A : Type 0} → Outcome F A → Option F → Type 0
MayRefuse outcome None = Unit {0}
MayRefuse outcome (Some fault) = outcome (Err fault)

-- The value, as `view` shows it, or the refusal that `refusal` finds in the fault is one that may come; a fault without a
-- refusal, as out of memory, may always come.
abbrev pub Fits : {E F X A : Type 0} → (E → Option F) → (X → A) → Result X E → Outcome F A → Type 0
Fits refusal view (Ok value) outcome = outcome (Ok (view value))
Fits refusal view (Err fault) outcome = MayRefuse outcome (refusal fault)
