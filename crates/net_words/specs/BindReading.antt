-- What is known while words are bound. Source: this project's own.
use Rattle.std.specs.Prelude.{◌≡◌, ℕ, ◌<◌, Bool, false, List, slice_index_or, Option, None, Some, Result}
use Rattle.outcome.specs.Outcome.{Outcome, Fits}
use Rattle.net_words.specs.declared.binding.BindFault.{BindFault}
use Rattle.net_words.specs.declared.binding.BindFault.TheVariants.{OutOfMemory}

-- the mark of a net
abbrev pub mark_at : List Bool → ℕ → Bool
mark_at marks n = slice_index_or marks n false

-- each of the nets below `count` has the mark that the test gives it
abbrev pub AreMarks : ℕ → (ℕ → Bool) → List Bool → Type 0
AreMarks count test marks = (n : ℕ) → n < count → mark_at marks n ≡ test n

-- the refusal of a binding; out of memory is none
abbrev pub refusal : BindFault → Option BindFault
refusal OutOfMemory = None
refusal fault = Some fault

-- the value, as view shows it, or the refusal is one that may come
abbrev pub FitsBinding : {X A : Type 0} → (X → A) → Result X BindFault → Outcome BindFault A → Type 0
FitsBinding view result outcome = Fits refusal view result outcome
