-- Small worked examples of the definitions of specs/, which the check computes.
use Rattle.std.proofs.Common.{◌≡◌, ℕ, inl, refl, Err}
use Rattle.outcome.specs.Outcome.{◌>>=◌, Exactly}

-- where the first step refuses with 3, the fault is 3, whatever the second would give
first_fault_counts : ◌>>=◌ {F = ℕ} {A = ℕ} {B = ℕ} (λ r. r ≡ Err 3) Exactly (Err 3)
first_fault_counts = inl refl
