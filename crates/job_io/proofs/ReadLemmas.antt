-- What follows of what a read of a shelf in memory gives, and of what is counted of it.
use Rattle.std.proofs.Common.{◌≡◌, ◌∙◌, ap, refl, inl, inr, ◌≤◌, ◌<◌, ◌-◌, ◌^◌, ◌↔◌, nat_lt, ℕ, Bool, true, false, List, length, Option, None, Some, Result, Ok, Err, Vec, vec_len, IfOk, IsErrOf, IsTrue, arith}
use Rattle.std.specs.declared.alloc.Global.{Global}
use Rattle.std.proofs.lemmas.Bool.{ltb-true, ltb-false}
use Rattle.job_io.specs.Counts.{Rose, next_of}
use Rattle.job_io.specs.Shelf.{faults_after, misses_after}
use Rattle.job_io.specs.declared.shelf.ShelfFault.{ShelfFault}
use Rattle.job_io.specs.declared.shelf.ShelfFault.TheVariants.{Absent, TooLong, Failed, OutOfMemory}
use Rattle.job_io.specs.private.Reads.{Gives}

abbrev Read : Type 0
Read = Result (Vec ℕ Global) ShelfFault

-- ---- counts

-- the next count rose
rose : (count : ℕ) → Rose count (next_of count)
rose count = by (nat_lt count (2 ^ 64 - 1)) refl
  where
    by : (b : Bool) → nat_lt count (2 ^ 64 - 1) ≡ b → Rose count (next_of count)
    by true less = inl (let small = ltb-true count (2 ^ 64 - 1) less in omega (arith, small))
    by false past = inr (let great = ltb-false count (2 ^ 64 - 1) past in omega (arith, great))

pub failed_rose : (read : Read) (count : ℕ) → IsErrOf read Failed → Rose count (faults_after read count)
failed_rose read count is = let e : read ≡ Err Failed = is in rw e (rose count)

pub absent_rose : (read : Read) (count : ℕ) → IsErrOf read Absent → Rose count (misses_after read count)
absent_rose read count is = let e : read ≡ Err Absent = is in rw e (rose count)

pub too_long_rose : (read : Read) (count n : ℕ) → IsErrOf read (TooLong n) → Rose count (misses_after read count)
too_long_rose read count n is = let e : read ≡ Err (TooLong n) = is in rw e (rose count)

pub faults_never_fall : (read : Read) (count : ℕ) → count < 2 ^ 64 → count ≤ faults_after read count
faults_never_fall (Ok bytes) count small = omega arith
faults_never_fall (Err Absent) count small = omega arith
faults_never_fall (Err (TooLong n)) count small = omega arith
faults_never_fall (Err Failed) count small = omega (arith, small)
faults_never_fall (Err OutOfMemory) count small = omega arith

pub misses_never_fall : (read : Read) (count : ℕ) → count < 2 ^ 64 → count ≤ misses_after read count
misses_never_fall (Ok bytes) count small = omega arith
misses_never_fall (Err Absent) count small = omega (arith, small)
misses_never_fall (Err (TooLong n)) count small = omega (arith, small)
misses_never_fall (Err Failed) count small = omega arith
misses_never_fall (Err OutOfMemory) count small = omega arith

-- ---- bytes and faults

module _ (fails : Bool) (file : Option (List ℕ)) (limit : ℕ) where
  pub fails_where : (read : Read) → Gives fails file limit read → IsErrOf read Failed ↔ IsTrue fails
  fails_where (Ok bytes) (sure, is, few) = (λ e. absurd (cc), λ e. absurd (cc))
  fails_where (Err Absent) (sure, none) = (λ e. absurd (cc), λ e. absurd (cc))
  fails_where (Err (TooLong n)) (sure, same, bytes, is, long) = (λ e. absurd (cc), λ e. absurd (cc))
  fails_where (Err Failed) is = (λ _. is, λ _. refl)
  fails_where (Err OutOfMemory) (sure, bytes, is, few) = (λ e. absurd (cc), λ e. absurd (cc))

  pub never_fails : (read : Read) → Gives fails file limit read → fails ≡ false → ¬ IsErrOf read Failed
  never_fails read gives sure is = let fault : fails ≡ true = (fails_where read gives).0 is in absurd (cc)

  pub file_held : (read : Read) → Gives fails file limit read → IfOk read (λ bytes. file ≡ Some bytes.items)
  file_held (Ok bytes) (sure, is, few) = is
  file_held (Err fault) gives = tt

  pub within_limit : (read : Read) → Gives fails file limit read → IfOk read (λ bytes. vec_len bytes ≤ limit)
  within_limit (Ok bytes) (sure, is, few) = few
  within_limit (Err fault) gives = tt

  pub absent_where : (read : Read) → Gives fails file limit read → fails ≡ false → file ≡ None → IsErrOf read Absent
  absent_where (Ok bytes) (sure, is, few) succeeds none = absurd (cc)
  absent_where (Err Absent) gives succeeds none = refl
  absent_where (Err (TooLong n)) (sure, same, bytes, is, more) succeeds none = absurd (cc)
  absent_where (Err Failed) is succeeds none = absurd (cc)
  absent_where (Err OutOfMemory) (sure, bytes, is, few) succeeds none = absurd (cc)

  pub file_lacks : (read : Read) → Gives fails file limit read → IsErrOf read Absent → file ≡ None
  file_lacks (Ok bytes) gives e = absurd (cc)
  file_lacks (Err Absent) (sure, none) e = none
  file_lacks (Err (TooLong n)) gives e = absurd (cc)
  file_lacks (Err Failed) gives e = absurd (cc)
  file_lacks (Err OutOfMemory) gives e = absurd (cc)

  -- the file has more bytes than the limit
  abbrev IsLong : Type 0
  IsLong = (bytes : List ℕ) × (file ≡ Some bytes) × (limit < length bytes)

  pub long_where : (read : Read) → Gives fails file limit read → fails ≡ false → IsLong → IsErrOf read (TooLong limit)
  long_where (Ok bytes) (sure, is, few) succeeds (more, is', long) = let same : bytes.items ≡ more = cc in absurd (let count = bytes.ok.0 in omega (arith, few, long, count, ap length same))
  long_where (Err Absent) (sure, none) succeeds (more, is, long) = absurd (cc)
  long_where (Err (TooLong n)) (sure, same, bytes, is, long) succeeds more = rw same refl
  long_where (Err Failed) is succeeds more = absurd (cc)
  long_where (Err OutOfMemory) (sure, bytes, is, few) succeeds (more, is', long) = let same : bytes ≡ more = cc in absurd (omega (arith, few, long, ap length same))

  pub too_long : (read : Read) → Gives fails file limit read → (n : ℕ) → IsErrOf read (TooLong n) → (n ≡ limit) × IsLong
  too_long (Ok bytes) gives n e = absurd (cc)
  too_long (Err Absent) gives n e = absurd (cc)
  too_long (Err (TooLong m)) (sure, same, bytes, is, long) n e = let equal : n ≡ m = cc in (equal ∙ same, (bytes, is, long))
  too_long (Err Failed) gives n e = absurd (cc)
  too_long (Err OutOfMemory) gives n e = absurd (cc)
