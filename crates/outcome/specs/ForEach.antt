-- One value for each element of a list, or the fault of the first element that has none. Source: this project's own.
use Rattle.std.specs.Prelude.{◌≡◌, ℕ, ◌<◌, List, Ok, Err, Some, length, slice_get}
use Rattle.outcome.specs.Outcome.{Outcome}

module _ {X A F : Type 0} (may : X → Outcome F A) (xs : List X) where
  -- place by place, a value that may come of the element
  pub record AreValues (values : List A) : Type 0 where
    pub long : length values ≡ length xs
    pub each : (i : ℕ) (x : X) (value : A) → slice_get xs i ≡ Some x → slice_get values i ≡ Some value → may x (Ok value)

  -- a fault of an element, where each element before it has a value
  pub record IsFirstFault (fault : F) : Type 0 where
    pub place : ℕ
    pub element : X
    pub at : slice_get xs place ≡ Some element
    pub is : may element (Err fault)
    pub before : (i : ℕ) (x : X) → i < place → slice_get xs i ≡ Some x → (value : A) × may x (Ok value)

  -- the values of all, or the fault of the first that has none
  abbrev pub ForEach : Outcome F (List A)
  ForEach (Ok values) = AreValues values
  ForEach (Err fault) = IsFirstFault fault
