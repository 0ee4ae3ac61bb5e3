-- Words of a text: the names of their nets, and their bases. Source: this project's own.
use Rattle.std.specs.Prelude.{ℕ, not, List, [], ◌∷◌}
use Rattle.std.specs.List.{filter}
use Rattle.net_words.specs.Roles.{same_role}
use Rattle.net_words.specs.declared.word.Role.{Role}
use Rattle.net_words.specs.declared.word.Role.TheVariants.{Output}
use Rattle.net_words.specs.declared.word.WordText.{WordText}
use Rattle.net_blif.specs.Statement.{Token}

-- a word by the names of its nets and the elements of its basis, both by place
pub record NamedWord : Type 0 where
  pub role : Role
  pub nets : List Token
  pub basis : List ℕ

-- words with one basis for each
abbrev pub named_words : List WordText → List (List ℕ) → List NamedWord
named_words [] bases = []
named_words (word ∷ words) [] = []
named_words (word ∷ words) (basis ∷ bases) = record { role = word.role; nets = word.nets; basis = basis } ∷ named_words words bases

-- the words that are no output word, in their order
abbrev pub inputs_among : List NamedWord → List NamedWord
inputs_among words = filter (λ word. not (same_role word.role Output)) words

-- the output words, of which a top and a block have one
abbrev pub outputs_among : List NamedWord → List NamedWord
outputs_among words = filter (λ word. same_role word.role Output) words
