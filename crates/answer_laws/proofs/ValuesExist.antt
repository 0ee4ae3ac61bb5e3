-- Words are values of a field or have a fault, and a signature is small enough for tables or is not.
use Rattle.std.proofs.Common.{refl, inl, inr, ℕ, ◌+◌, ◌*◌, ◌^◌, List, [], ◌∷◌, length, Ok, Err}
use Rattle.outcome.specs.Outcome.{◌>>=◌, Exactly}
use Rattle.outcome.proofs.SomeLemmas.{some_bind, some_exactly}
use Rattle.lift_table.specs.Small.{IsSmall}
use Rattle.job_words.specs.Operands.{Word}
use Rattle.job_words.specs.declared.fault.Fault.TheVariants.{NotSmall}
use Rattle.job_words.specs.declared.value_fault.ValueFault.TheVariants.{TooLarge, WrongCount}
use Rattle.job_input.specs.SettingValue.{SettingValue}
use Rattle.reader_laws.proofs.DecidedLemmas.{both_decided, even_decided, hex_decided, most_decided, moved_decided, IsDecided}
use Rattle.answer_polynomials.specs.Values.{ElementOf, ElementsOf, HaveCount, ValuesOf}
use Rattle.answer_tables.specs.Lift.{table_words, SmallEnough}
use Rattle.job_laws.specs.HasOutcome.{HasOutcome}

-- ---- values

module _ (k : ℕ) where
  some_element : (place : ℕ) (value : Word) → HasOutcome (ElementOf k place value)
  some_element place value = elim (hex_decided (2 ^ k) value) [ inl found ↦ (Ok found.0, found.1) | inr none ↦ (Err (TooLarge place), ((λ x hex small. none (x, (hex, small))), refl)) ]

  some_each : (place : ℕ) (values : List Word) → HasOutcome (ElementsOf k place values)
  some_each place [] = some_exactly []
  some_each place (value ∷ values) =
      some_bind (ElementOf k place value) (λ x. ElementsOf k (place + 1) values >>= (λ xs. Exactly (x ∷ xs))) (some_element place value) (λ x is.
      some_bind (ElementsOf k (place + 1) values) (λ xs. Exactly (x ∷ xs)) (some_each (place + 1) values) (λ xs are. some_exactly (x ∷ xs)))

some_count : (words : ℕ) (values : List Word) → HasOutcome (HaveCount words values)
some_count words values = elim (even_decided (length values) words) [ inl same ↦ (Ok tt, same) | inr other ↦ (Err (WrongCount (length values) words), (other, refl)) ]

pub some_values : (k words : ℕ) (values : List Word) → HasOutcome (ValuesOf k words values)
some_values k words values = some_bind (HaveCount words values) (λ count. ElementsOf k 1 values) (some_count words values) (λ count is. some_each k 1 values)

-- ---- small signatures

small_decided : (k words : ℕ) → IsDecided (IsSmall k words)
small_decided k words = moved_decided (λ is. record { bits = is.0; rows = is.1 }) (λ (small : IsSmall k words). (small.bits, small.rows)) (both_decided (most_decided k 8) (most_decided (k * words) 16))

pub some_size : (setting : SettingValue) → HasOutcome (SmallEnough setting)
some_size setting = elim (small_decided setting.k (table_words setting)) [ inl small ↦ (Ok tt, small) | inr large ↦ (Err NotSmall, (refl, large)) ]
