-- What comes of a value with a listing of stages of which it is decided whether one is over the bound.
use Rattle.std.proofs.Common.{refl, inl, inr, ℕ, List, Ok, Err}
use Rattle.stage_model.specs.Listing.{Listing}
use Rattle.stage_model.proofs.SearchLemmas.{IsDecided}
use Rattle.answer_core.specs.Staged.{Staged}
use Rattle.job_laws.specs.HasOutcome.{HasOutcome}

module _ (k : ℕ) (product : ℕ → ℕ → ℕ) {N A : Type 0} (listing : Listing N) (called : N → List ℕ) (bound : ℕ) (Is : A → Type 0) where
  pub some_staged : (value : A) → Is value → IsDecided k product listing bound → HasOutcome (Staged k product listing called bound Is)
  some_staged value is (inl all) = (Ok value, (is, all))
  some_staged value is (inr (name, n, over)) = (Err (record { stage = called name; terms = n; bound = bound }), record { name = name; over = over; text = refl; most = refl })
