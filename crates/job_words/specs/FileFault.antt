-- The texts of faults of files. Source: this project's own texts, docs/COMMANDS.md.
use Rattle.std.specs.Prelude.{ℕ, List, ◌++◌, codes}
use Rattle.job_words.specs.declared.file_fault.FileFault.{FileFault}
use Rattle.job_words.specs.declared.file_fault.FileFault.TheVariants.{Absent, TooLong}

-- the number and the text of a file's fault
abbrev pub file_text : FileFault → List ℕ
file_text (Absent file) = codes "10: " ++ (file ++ codes " is absent")
file_text (TooLong file) = codes "11: " ++ (file ++ codes " has more than 67108864 bytes")
