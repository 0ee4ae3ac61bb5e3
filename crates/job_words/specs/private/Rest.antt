-- What follows the files of a command: for the clauses of private functions. Source: this project's own.
use Rattle.std.specs.Prelude.{◌≡◌, List}
use Rattle.job_words.specs.Operands.{Word}

-- any words
abbrev pub Anything : List Word → Type 0
Anything words = Unit {0}

-- these words
abbrev pub IsRest : List Word → List Word → Type 0
IsRest rest words = words ≡ rest
