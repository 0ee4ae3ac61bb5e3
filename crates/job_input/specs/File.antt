-- What comes of reading a file. Source: this project's own.
use Rattle.std.specs.Prelude.{◌≡◌, ℕ, ◌≤◌, List, length, Option, Ok, Err}
use Rattle.lists.specs.Limits.{most_bytes}
use Rattle.outcome.specs.Outcome.{Outcome}
use Rattle.job_io.specs.Shelf.{Files, Has, Lacks, HasMoreThan}
use Rattle.job_words.specs.declared.file_fault.FileFault.{FileFault}
use Rattle.job_words.specs.declared.file_fault.FileFault.TheVariants.{Absent, TooLong}
use Rattle.job_words.specs.Operands.{Word}

-- the bytes of a file, or why it is refused: those that the shelf holds, where it tells
abbrev pub Read : Option Files → Word → Outcome FileFault (List ℕ)
Read held name (Ok bytes) = Has held name bytes × (length bytes ≤ most_bytes)
Read held name (Err (Absent file)) = (file ≡ name) × Lacks held name
Read held name (Err (TooLong file)) = (file ≡ name) × HasMoreThan held name most_bytes
