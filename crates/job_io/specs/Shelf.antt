-- What a shelf holds, and what a read counts. Source: this project's own.
use Rattle.std.specs.Prelude.{◌≡◌, ℕ, ◌<◌, List, map, length, Option, None, Some, IfSome, Vec, String, string_bytes, Result, Err}
use Rattle.std.specs.declared.alloc.Global.{Global}
use Rattle.std.specs.Ordering.{nat_cmp}
use Rattle.std.specs.Cmp.Lexicographic.{slice_cmp}
use Rattle.std.specs.FinMap.{FinMap, get, from_entries}
use Rattle.job_io.specs.Counts.{next_of}
use Rattle.job_io.specs.declared.shelf.ShelfFault.{ShelfFault}
use Rattle.job_io.specs.declared.shelf.ShelfFault.TheVariants.{Absent, TooLong, Failed}

-- from a file's name to its bytes
abbrev pub Files : Type 0
Files = FinMap (slice_cmp nat_cmp) (List ℕ)

-- where the shelf tells what it holds, the file has these bytes
abbrev pub Has : Option Files → List ℕ → List ℕ → Type 0
Has held name bytes = IfSome held (λ files. get files name ≡ Some bytes)

-- where the shelf tells what it holds, it lacks the file
abbrev pub Lacks : Option Files → List ℕ → Type 0
Lacks held name = IfSome held (λ files. get files name ≡ None)

-- where the shelf tells what it holds, the file has more bytes than the limit
abbrev pub HasMoreThan : Option Files → List ℕ → ℕ → Type 0
HasMoreThan held name limit = IfSome held (λ files. (bytes : List ℕ) × (get files name ≡ Some bytes) × (limit < length bytes))

-- the map of a list of pairs, in which the first pair of a name counts
abbrev pub files_of : List (String Global × Vec ℕ Global) → Files
files_of pairs = from_entries (map (λ p. (string_bytes p.0, p.1.items)) pairs)

-- a read counts one more fault where it failed
abbrev pub faults_after : {A : Type 0} → Result A ShelfFault → ℕ → ℕ
faults_after (Err Failed) count = next_of count
faults_after _ count = count

-- a read counts one more miss where the file was absent or too long
abbrev pub misses_after : {A : Type 0} → Result A ShelfFault → ℕ → ℕ
misses_after (Err Absent) count = next_of count
misses_after (Err (TooLong _)) count = next_of count
misses_after _ count = count
