-- Words: the bits of nets as an element of a field. Source: Lidl and Niederreiter, Finite Fields, chapter 2.
use Rattle.std.specs.Prelude.{◌≡◌, ℕ, Bool, List, [], ◌∷◌, ◌++◌, length}
use Rattle.net_core.specs.Value.{index_of}
use Rattle.net_words.specs.declared.word.Role.{Role}
use Rattle.net_words.specs.declared.word.Role.TheVariants.{Input, State, Fed}
use Rattle.gf_basis.specs.Basis.{AreBits}

-- what a word is to the circuit, its nets, and the elements of its basis, both by place
pub record Word : Type 0 where
  pub role : Role
  pub nets : List ℕ
  pub basis : List ℕ

abbrev pub IsInputWord : Word → Type 0
IsInputWord w = w.role ≡ Input

abbrev pub IsStateWord : Word → Type 0
IsStateWord w = w.role ≡ State

abbrev pub IsFedWord : Word → Type 0
IsFedWord w = w.role ≡ Fed

abbrev pub IsAnyWord : Word → Type 0
IsAnyWord w = Unit {0}

-- where each net has its bit, x is the sum of the elements at the places whose bit is 1; there are as many elements as nets
pub record HasElement (bits : List Bool) (word : Word) (x : ℕ) : Type 0 where
  pub long : length word.basis ≡ length word.nets
  pub sum : AreBits word.basis x (index_of bits word.nets)

-- the nets of words, word by word and by place
abbrev pub word_nets : List Word → List ℕ
word_nets [] = []
word_nets (word ∷ words) = word.nets ++ word_nets words
