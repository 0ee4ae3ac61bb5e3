-- The values at which a netlist is to be evaluated, or why they are refused. Source: this project's own, docs/COMMANDS.md.
use Rattle.std.specs.Prelude.{◌≡◌, ◌≢◌, ℕ, ◌+◌, ◌^◌, ◌<◌, List, [], ◌∷◌, length, Ok, Err}
use Rattle.outcome.specs.Outcome.{Outcome, ◌>>=◌, Exactly}
use Rattle.text_core.specs.Numbers.{IsHex}
use Rattle.job_words.specs.Operands.{Word}
use Rattle.job_words.specs.declared.value_fault.ValueFault.{ValueFault}
use Rattle.job_words.specs.declared.value_fault.ValueFault.TheVariants.{WrongCount, TooLarge}

-- there are so many values
abbrev pub HaveCount : ℕ → List Word → Outcome ValueFault (Unit {0})
HaveCount count values (Ok u) = length values ≡ count
HaveCount count values (Err fault) = (length values ≢ count) × (fault ≡ WrongCount (length values) count)

-- the value at a place is an element of the field of 2 to the k elements
abbrev pub ElementOf : (k place : ℕ) → Word → Outcome ValueFault ℕ
ElementOf k place value (Ok x) = IsHex value x × (x < 2 ^ k)
ElementOf k place value (Err fault) = ((x : ℕ) → IsHex value x → x < 2 ^ k → ⊥) × (fault ≡ TooLarge place)

-- the values from a place on: value by value, the first fault decides
abbrev pub ElementsOf : (k place : ℕ) → List Word → Outcome ValueFault (List ℕ)
ElementsOf k place [] = Exactly []
ElementsOf k place (value ∷ values) = do
  x ← ElementOf k place value
  xs ← ElementsOf k (place + 1) values
  Exactly (x ∷ xs)

-- one element of the field for each word: first their number counts; places count from 1
abbrev pub ValuesOf : (k words : ℕ) → List Word → Outcome ValueFault (List ℕ)
ValuesOf k words values = do
  count ← HaveCount words values
  ElementsOf k 1 values
