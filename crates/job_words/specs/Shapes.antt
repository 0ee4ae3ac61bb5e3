-- The shapes of words behind the name of a command: files, and what follows them. Source: this project's own, docs/COMMANDS.md.
use Rattle.std.specs.Prelude.{◌≡◌, ℕ, List, ◌∷◌, ◌++◌, All}
use Rattle.job_words.specs.Operands.{Word, IsBlifName, IsOperand, IsValue}
use Rattle.job_words.specs.Options.{IsCyclesOption}

-- a signature and a second file, and what follows them
pub record IsOverFile (Follow : List Word → Type 0) (words : List Word) (signature file : Word) : Type 0 where
  pub rest : List Word
  pub words_are : words ≡ signature ∷ file ∷ rest
  pub signature_is : IsOperand signature
  pub file_is : IsOperand file
  pub follow : Follow rest

-- a signature and a netlist in BLIF, and what follows them
pub record IsOverBlif (Follow : List Word → Type 0) (words : List Word) (signature net : Word) : Type 0 where
  pub files : IsOverFile Follow words signature net
  pub in_blif : IsBlifName net

-- a signature and two files, and what follows them
pub record IsOverFiles (Follow : List Word → Type 0) (words : List Word) (signature file other : Word) : Type 0 where
  pub rest : List Word
  pub words_are : words ≡ signature ∷ file ∷ other ∷ rest
  pub signature_is : IsOperand signature
  pub file_is : IsOperand file
  pub other_is : IsOperand other
  pub follow : Follow rest

-- any number of values, and the option of cycles behind them
pub record AreValues (words values : List Word) (cycles : ℕ) : Type 0 where
  pub options : List Word
  pub words_are : words ≡ values ++ options
  pub values_are : All IsValue values
  pub set : IsCyclesOption options cycles
