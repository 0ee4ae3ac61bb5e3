-- Words of blocks, step by step. Source: this project's own.
use Rattle.std.specs.Prelude.{◌≡◌, ℕ, ◌≤◌, Bool, List, Some, length, slice_get, is_some}
use Rattle.std.specs.List.{list_any}
use Rattle.lists.specs.Lists.{Has}
use Rattle.gf_basis.specs.BasisParts.{elements_of}
use Rattle.gf_basis.specs.declared.bases.Basis.{Basis}
use Rattle.net_words.specs.declared.word.WordText.{WordText}
use Rattle.net_blif.specs.Instances.{is_among}
use Rattle.net_blif.specs.Statement.{Token}
use Rattle.net_blif.specs.Table.{Numbers}
use Rattle.compose_model.specs.NamedWord.{inputs_among, outputs_among, NamedWord}

-- a net stands in one of these words
abbrev pub in_some : List NamedWord → Token → Bool
in_some words net = list_any (λ word. is_among word.nets net) words

-- one of the nets stands in one of these words
abbrev pub some_in : List NamedWord → List Token → Bool
some_in words nets = list_any (in_some words) nets

-- a bit of an output word is a bit of another word
abbrev pub is_mixed : List NamedWord → Bool
is_mixed words = list_any (λ word. some_in (inputs_among words) word.nets) (outputs_among words)

-- these names have numbers
abbrev pub Knows : (Token → Bool) → Numbers → Type 0
Knows test numbers = (name : Token) → is_some (numbers name) ≡ test name

-- k bits and k basis elements for each word, and one output word
pub record AreOf (k : ℕ) (words : List NamedWord) : Type 0 where
  pub small : k ≤ 64
  pub output : length (outputs_among words) ≡ 1
  pub few : length words ≤ 9
  pub nets : (word : NamedWord) → Has words word → length word.nets ≡ k
  pub bases : (word : NamedWord) → Has words word → length word.basis ≡ k

-- a word with the elements of a basis is the word and the basis of this place, with the elements of the basis
abbrev pub IsNamedAt : List WordText → List Basis → ℕ → NamedWord → Type 0
IsNamedAt words bases place named = (word : WordText) (basis : Basis) → slice_get words place ≡ Some word → slice_get bases place ≡ Some basis → named ≡ record { role = word.role; nets = word.nets; basis = elements_of basis }
