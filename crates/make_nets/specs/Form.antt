-- Forms of the words of a signature that makers ask for. Source: this project's own, docs/FORMATS.md.
use Rattle.std.specs.Prelude.{◌≡◌, ℕ, suc, List, [], ◌∷◌, length, map, filter, All}
use Rattle.lists.specs.Lists.{Has}
use Rattle.net_words.specs.Roles.{same_role}
use Rattle.net_words.specs.declared.word.Role.{Role}
use Rattle.net_words.specs.declared.word.Role.TheVariants.{Output}
use Rattle.net_words.specs.declared.word.BasisText.TheVariants.{Poly}
use Rattle.net_words.specs.declared.word.WordText.{WordText}

-- how many words have the role
abbrev pub role_count : Role → List WordText → ℕ
role_count role words = length (filter (λ word. same_role word.role role) words)

-- one output word, and so many others, which have all this role
pub record HasWords (role : Role) (count : ℕ) (words : List WordText) : Type 0 where
  pub all : length words ≡ suc count
  pub others : role_count role words ≡ count
  pub output : role_count Output words ≡ 1

-- each word has the basis of powers
abbrev pub AllPoly : List WordText → Type 0
AllPoly words = All (λ word. word.basis ≡ Poly) words

-- the bases of all words are the first one's by their texts' values
abbrev pub AllAlike : List WordText → Type 0
AllAlike [] = Unit {0}
AllAlike (first ∷ words) = All (λ word. first.basis ≡ word.basis) words

-- each word has k nets
abbrev pub AllWide : ℕ → List WordText → Type 0
AllWide k words = (word : WordText) → Has words word → length word.nets ≡ k

-- one basis for each word, the same for all
abbrev pub same_bases : List ℕ → List WordText → List (List ℕ)
same_bases basis words = map (λ word. basis) words
