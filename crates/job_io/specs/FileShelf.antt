-- What the shelf of the system's files has counted. Source: this project's own.
use Rattle.std.specs.Prelude.{ℕ}
use Rattle.std.specs.declared.io.traits.Read.{Ghosts as ReadGhosts}
use Rattle.std.specs.declared.io.traits.Write.{Ghosts as WriteGhosts}
use Rattle.std.specs.declared.io.traits.Seek.{Ghosts as SeekGhosts}
use Rattle.job_io.specs.declared.file_shelf.FileShelf.{FileShelf}

-- over any kind of files
module _ {R F S : Type 0} {read : ReadGhosts F} {write : WriteGhosts F} {seek : SeekGhosts F} {other : ReadGhosts S} where
  -- how many reads failed
  abbrev pub file_faults : FileShelf R F S read write seek other → ℕ
  file_faults shelf = shelf.faults

  -- how many files were absent or too long
  abbrev pub file_misses : FileShelf R F S read write seek other → ℕ
  file_misses shelf = shelf.misses
