-- What a read of a shelf in memory gives: for the clauses of private functions. Source: this project's own.
use Rattle.std.specs.Prelude.{◌≡◌, ℕ, ◌<◌, ◌≤◌, Bool, true, false, List, length, Option, None, Some, Vec, vec_len, Result, Ok, Err}
use Rattle.std.specs.declared.alloc.Global.{Global}
use Rattle.job_io.specs.declared.shelf.ShelfFault.{ShelfFault}
use Rattle.job_io.specs.declared.shelf.ShelfFault.TheVariants.{Absent, TooLong, Failed, OutOfMemory}

-- what a read gives of a file, or of none, where it is to fail or not: the bytes, if there are no more than the limit
abbrev pub Gives : Bool → Option (List ℕ) → ℕ → Result (Vec ℕ Global) ShelfFault → Type 0
Gives fails file limit (Ok bytes) = (fails ≡ false) × (file ≡ Some bytes.items) × (vec_len bytes ≤ limit)
Gives fails file limit (Err Absent) = (fails ≡ false) × (file ≡ None)
Gives fails file limit (Err (TooLong n)) = (fails ≡ false) × (n ≡ limit) × (bytes : List ℕ) × (file ≡ Some bytes) × (limit < length bytes)
Gives fails file limit (Err Failed) = fails ≡ true
Gives fails file limit (Err OutOfMemory) = (fails ≡ false) × (bytes : List ℕ) × (file ≡ Some bytes) × (length bytes ≤ limit)
