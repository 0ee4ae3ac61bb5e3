-- The words of commands that make netlists: a kind and a signature, or numbers. Source: this project's own, docs/COMMANDS.md.
use Rattle.std.specs.Prelude.{◌≡◌, ℕ, ◌<◌, ◌≤◌, ◌^◌, List, [], ◌∷◌, length, slice_index}
use Rattle.text_core.specs.Numbers.{IsDecimal, IsHex}
use Rattle.job_words.specs.declared.kind.Kind.{Kind}
use Rattle.job_words.specs.Kind.{kind_name}
use Rattle.job_words.specs.Operands.{Word, IsOperand}
use Rattle.job_words.specs.Options.{IsTermsOption}

-- the name of a kind, and a signature
pub record IsOfKind (words : List Word) (signature : Word) (kind : Kind) : Type 0 where
  pub words_are : words ≡ kind_name kind ∷ signature ∷ []
  pub signature_is : IsOperand signature

-- a decimal number without leading zeros, below 2^64
pub record IsTrialNumber (word : Word) (number : ℕ) : Type 0 where
  pub decimal : IsDecimal word number
  pub no_zeros : slice_index word 0 ≡ 48 → length word ≡ 1
  pub small : number < 2 ^ 64

-- `0x` and 1 to 32 hexadecimal digits with this value
pub record IsValueOf (word : Word) (value : ℕ) : Type 0 where
  pub hex : IsHex word value
  pub short : length word ≤ 34

-- a number, a modulus, and the bound on the terms of a stage, 1 to 262,144 and by default 65,536
pub record AreTrialWords (words : List Word) (number modulus terms : ℕ) : Type 0 where
  pub first : Word
  pub second : Word
  pub options : List Word
  pub words_are : words ≡ first ∷ second ∷ options
  pub number_is : IsTrialNumber first number
  pub modulus_is : IsValueOf second modulus
  pub set : IsTermsOption 262144 65536 options terms
