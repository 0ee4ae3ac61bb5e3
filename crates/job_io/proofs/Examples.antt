-- Small worked examples of the definitions of specs/, which the check computes.
use Rattle.std.proofs.Common.{◌≡◌, ℕ, ◌^◌, ◌-◌, [], ◌∷◌, true, false, Ok, Err, refl, inr}
use Rattle.job_io.specs.Counts.{Rose, next_of, is_listed}
use Rattle.job_io.specs.Shelf.{faults_after, misses_after}
use Rattle.job_io.specs.Sink.{sink_faults_after}
use Rattle.job_io.specs.declared.shelf.ShelfFault.TheVariants.{Absent, Failed}
use Rattle.job_io.specs.declared.sink.SinkFailed.{SinkFailed}

-- after 7 comes 8
next_of_seven : next_of 7 ≡ 8
next_of_seven = refl

-- the greatest count, 2^64 - 1, stays
next_of_last : next_of (2 ^ 64 - 1) ≡ 2 ^ 64 - 1
next_of_last = refl

-- a count that stays at 2^64 - 1 rose, as the definition has it
rose_at_last : Rose (2 ^ 64 - 1) (2 ^ 64 - 1)
rose_at_last = inr refl

-- of 1 and 4, 4 is listed
four_is_listed : is_listed (1 ∷ 4 ∷ []) 4 ≡ true
four_is_listed = refl

-- of 1 and 4, 2 is not listed
two_is_not_listed : is_listed (1 ∷ 4 ∷ []) 2 ≡ false
two_is_not_listed = refl

-- a read that failed makes 3 faults 4
failed_counts : faults_after {A = ℕ} (Err Failed) 3 ≡ 4
failed_counts = refl

-- where the file was absent, 3 faults stay 3
absent_is_no_fault : faults_after {A = ℕ} (Err Absent) 3 ≡ 3
absent_is_no_fault = refl

-- an absent file makes 3 misses 4
absent_counts : misses_after {A = ℕ} (Err Absent) 3 ≡ 4
absent_counts = refl

-- a read of 7 bytes leaves 3 misses as they are
read_is_no_miss : misses_after {A = ℕ} (Ok 7) 3 ≡ 3
read_is_no_miss = refl

-- a write that failed makes 0 faults 1
write_counts : (fault : SinkFailed) → sink_faults_after (Err fault) 0 ≡ 1
write_counts fault = refl
