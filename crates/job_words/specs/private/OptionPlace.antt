-- Where the options begin: for the clauses of private functions. Source: this project's own.
use Rattle.std.specs.Prelude.{List, [], ◌∷◌, Bool, codes, cond, nat_eq}
use Rattle.std.specs.List.{starts_with}
use Rattle.job_words.specs.Operands.{Word}

-- the word begins the options
abbrev pub begins_options : Word → Bool
begins_options word = starts_with nat_eq word (codes "--")

-- the words before the first that begins the options
abbrev pub before_options : List Word → List Word
before_options [] = []
before_options (word ∷ words) = cond (begins_options word) [] (word ∷ before_options words)

-- the options: that word and those behind it
abbrev pub from_options : List Word → List Word
from_options [] = []
from_options (word ∷ words) = cond (begins_options word) (word ∷ words) (from_options words)
