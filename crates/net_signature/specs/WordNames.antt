-- The names of a signature's words. Source: this project's own format, docs/FORMATS.md.
use Rattle.std.specs.Prelude.{◌≡◌, ℕ, List, Some, slice_get}
use Rattle.lists.specs.Lists.{Has}
use Rattle.text_core.specs.Names.{IsName}
use Rattle.net_words.specs.declared.word.WordText.{WordText}

-- each word has a name, and no two have the same
pub record HaveNames (words : List WordText) : Type 0 where
  pub names : (word : WordText) → Has words word → IsName word.name
  pub apart : (i j : ℕ) (u v : WordText) → slice_get words i ≡ Some u → slice_get words j ≡ Some v → u.name ≡ v.name → i ≡ j
