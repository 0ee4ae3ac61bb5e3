-- What a shelf in memory that never fails holds, and how often it missed. Source: this project's own.
use Rattle.std.specs.Prelude.{ℕ}
use Rattle.job_io.specs.Shelf.{Files, files_of}
use Rattle.job_io.specs.declared.sure_shelf.SureShelf.{SureShelf}

-- from each name to the bytes of its file
abbrev pub sure_files : SureShelf → Files
sure_files shelf = files_of shelf.pairs.items

-- how many files were absent or too long
abbrev pub sure_misses : SureShelf → ℕ
sure_misses shelf = shelf.misses
