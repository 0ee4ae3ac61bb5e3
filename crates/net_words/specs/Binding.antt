-- Words that are bound to nets. Source: this project's own.
use Rattle.std.specs.Prelude.{◌≡◌, ◌⊎◌, ℕ, ◌≤◌, not, List, [], length, filter, All}
use Rattle.net_core.specs.NetList.{NetList}
use Rattle.net_words.specs.Roles.{is_output, input_count, same_role}
use Rattle.net_words.specs.declared.bound.BoundWord.{BoundWord}
use Rattle.net_words.specs.declared.feed.Feed.{Feed}
use Rattle.net_words.specs.declared.word.Role.TheVariants.{Fed, Output}
use Rattle.net_words.specs.declared.word.WordText.{WordText}

-- the bits of each word, the words in signature order with their nets, place 0 first, the feeds, and how many nets the net
-- list has
pub record Binding : Type 0 where
  pub k : ℕ
  pub words : List BoundWord
  pub feeds : List Feed
  pub nets : ℕ

-- the word has k nets, or it is fed and has none
abbrev pub HasWidth : ℕ → BoundWord → Type 0
HasWidth k word = (length word.nets ≡ k) ⊎ ((word.role ≡ Fed) × (word.nets ≡ []))

-- k is 1 to 64, each word has k nets or is fed and has none, one is the output word, and at most eight are others
pub record IsBinding (binding : Binding) : Type 0 where
  pub some : 1 ≤ binding.k
  pub most : binding.k ≤ 64
  pub one : length (filter (λ word. same_role word.role Output) binding.words) ≡ 1
  pub few : length (filter (λ word. not (same_role word.role Output)) binding.words) ≤ 8
  pub each : All (HasWidth binding.k) binding.words

-- words that can be bound: each that is not fed has k nets, k is 1 to 64; one is the output word, and at most eight are
-- input, state or fed words, so there are one to nine
pub record AreWords (k : ℕ) (words : List WordText) : Type 0 where
  pub some : 1 ≤ k
  pub most : k ≤ 64
  pub one : 1 ≤ length words
  pub few : length words ≤ 9
  pub output : length (filter is_output words) ≡ 1
  pub others : input_count words ≤ 8
  pub each : All (λ word. (length word.nets ≡ k) ⊎ (word.role ≡ Fed)) words

-- a net list with words that are bound to it
pub record BoundNet : Type 0 where
  pub net : NetList
  pub binding : Binding
