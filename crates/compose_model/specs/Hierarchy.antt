-- A top with instances of blocks. Source: Pruss, Kalla, Enescu, DAC 2014.
use Rattle.std.specs.Prelude.{◌≡◌, ℕ, ◌+◌, List, [], ◌∷◌, Option, None, Some, slice_get, if◌then◌else◌}
use Rattle.std.specs.Option.{option_and_then, option_map, unwrap_or}
use Rattle.std.specs.Str.{bytes_eq}
use Rattle.net_words.specs.declared.word.WordText.{WordText}
use Rattle.net_signature.specs.Body.{BlockValue}
use Rattle.net_blif.specs.Statement.{Token}
use Rattle.net_blif.specs.Design.{ModelValue}
use Rattle.net_blif.specs.Top.{actual_in, instances_of, model_in}
use Rattle.net_blif.specs.declared.item.Item.{Item}
use Rattle.compose_model.specs.NamedWord.{named_words, NamedWord}

-- models, of which the first is the top; the words of the top; the blocks of a signature, each the words of a model; and lists of
-- bases, one basis for each word: list 0 is that of the top, and list b + 1 that of block b
pub record Hierarchy : Type 0 where
  pub design : List ModelValue
  pub words : List WordText
  pub blocks : List BlockValue
  pub bases : List (List (List ℕ))

-- a list of bases
abbrev pub bases_at : Hierarchy → ℕ → List (List ℕ)
bases_at h n = unwrap_or (slice_get h.bases n) []

-- the words of the top
abbrev pub top_words : Hierarchy → List NamedWord
top_words h = named_words h.words (bases_at h 0)

-- the number of the first block of this model, where they are numbered from n
abbrev pub block_from : ℕ → List BlockValue → Token → Option ℕ
block_from n [] model = None
block_from n (block ∷ blocks) model = if bytes_eq model block.model then Some n else block_from (n + 1) blocks model

-- the number of the block of a model
abbrev pub block_of : Hierarchy → Token → Option ℕ
block_of h model = block_from 0 h.blocks model

-- instance i of the top, from 0 in the order of the lines, with the words of its block
pub record IsInstance (h : Hierarchy) (i : ℕ) (item : Item) (words : List NamedWord) : Type 0 where
  pub at : slice_get (instances_of h.design) i ≡ Some item
  pub number : ℕ
  pub named : block_of h (model_in item) ≡ Some number
  pub block : BlockValue
  pub found : slice_get h.blocks number ≡ Some block
  pub words_are : named_words block.words (bases_at h (number + 1)) ≡ words

-- the names in the top of what an instance connects to formals, one by one; none where one is not connected
abbrev pub actuals_of : Item → List Token → Option (List Token)
actuals_of item [] = Some []
actuals_of item (formal ∷ formals) = option_and_then (λ actual. option_map (λ actuals. actual ∷ actuals) (actuals_of item formals)) (actual_in item formal)
