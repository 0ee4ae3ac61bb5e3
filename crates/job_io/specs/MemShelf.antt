-- What a shelf in memory holds, which reads it fails, and what it has counted. Source: this project's own.
use Rattle.std.specs.Prelude.{ℕ, List}
use Rattle.job_io.specs.Shelf.{Files, files_of}
use Rattle.job_io.specs.declared.mem_shelf.MemShelf.{MemShelf}

-- from each name to the bytes of its file
abbrev pub mem_files : MemShelf → Files
mem_files shelf = files_of shelf.pairs.items

-- the numbers of the reads that fail
abbrev pub failing_reads : MemShelf → List ℕ
failing_reads shelf = shelf.failing.items

-- how many reads there were
abbrev pub mem_reads : MemShelf → ℕ
mem_reads shelf = shelf.reads

-- how many reads failed
abbrev pub mem_faults : MemShelf → ℕ
mem_faults shelf = shelf.faults

-- how many files were absent or too long
abbrev pub mem_misses : MemShelf → ℕ
mem_misses shelf = shelf.misses
